-- The loops over the values of a block and over the blocks: what is listed.
use Rattle.std.proofs.Common.{◌≡◌, ℕ, suc, ◌+◌, ◌<◌, ◌≤◌, false, List, [], ◌∷◌, ◌++◌, Option, Some, None, length, map, take, drop, refl, sym, ap, ◌∙◌, subst, arith, nat_eq, append_assoc}
use Rattle.std.specs.Prelude.{IfSome, slice_get, slice_index_or}
use Rattle.std.specs.List.{list_any}
use Rattle.std.proofs.lemmas.Grind.{flat_map-append}
use Rattle.std.proofs.lemmas.List.{append-nil, drop_all, drop_more, length-map, map-append, take_all, take_more}
use Rattle.std.proofs.lemmas.List.Concat.{length-flat_map}
use Rattle.indexmap.specs.IndexSet.{insert_key}
use Rattle.b3_ir.specs.Naming.{all_values}
use Rattle.b3_ir.specs.Procedure.{Block, IsIn, Kept, Procedure, StandsAt, no_block, total, values_from, values_of}
use Rattle.b3_ir.specs.declared.value.Value.{Value}
use Rattle.b3_rules.specs.Valid.{IsValidProcedure}
use Rattle.air_fold.specs.Indexed.{ids, ids_before}
use Rattle.air_fold.specs.Values.{ids_of, known_from, known_in}
use Rattle.air_fold.specs.declared.known.Known.{Known}
use Rattle.air_fold.proofs.Places.{is_new, row, take_item, values_in}
use Rattle.air_fold.proofs.Walks.{IsWalked, walk_first, walk_next, walk_stands, values_next}

-- ---- lists

-- more behind what is there
pub joined : {X : Type 0} (xs xs' a b : List X) → xs' ≡ xs ++ a → xs' ++ b ≡ xs ++ (a ++ b)
joined xs xs' a b e = ap (λ l. l ++ b) e ∙ append_assoc xs a b

-- the values of one block more
row_next : (blocks : List Block) (b : ℕ) → b < length blocks → row (take (b + 1) blocks) ≡ row (take b blocks) ++ values_in blocks b
row_next blocks b lt =
    ap row (take_more blocks b no_block lt)
    ∙ flat_map-append (λ (x : Block). x.values) (take b blocks) (slice_index_or blocks b no_block ∷ [])
    ∙ ap (λ l. row (take b blocks) ++ l) (append-nil (values_in blocks b))

-- ---- the ids of values, and what is known of them

pub record AreListed (p : Kept) (block : ℕ) (keys : List ℕ) (known old : List Known) (at : Option ℕ) : Type 0 where
  pub walk : IsWalked p block (λ (vs : List Value). known ++ map (known_in block) vs) (old ++ map (known_in block) (values_of p.procedure block)) at
  pub place : ℕ
  pub count : place + length (values_from p block at) ≡ length (values_of p.procedure block)
  pub are : keys ≡ ids_before p.procedure block place

pub listed_first : (p : Kept) (block : ℕ) (keys : List ℕ) (old : List Known) (at : Option ℕ) → keys ≡ ids_before p.procedure block 0
    → values_from p block at ≡ values_of p.procedure block → IfSome at (λ node. IsIn p node block) → AreListed p block keys old old at
listed_first p block keys old at are rest there = record {
  walk = walk_first p block at (λ (vs : List Value). old ++ map (known_in block) vs) rest there;
  place = 0;
  count = omega (arith, ap (λ (vs : List Value). length vs) rest);
  are = are;
}

pub listed_next : (p : Kept) → IsValidProcedure p.procedure
    → (block : ℕ) (keys keys' : List ℕ) (known known' old : List Known) (node : ℕ) (v : Value) (next : Option ℕ)
    → AreListed p block keys known old (Some node) → slice_get (values_from p block (Some node)) 0 ≡ Some v
    → keys' ≡ insert_key nat_eq keys v.id → known' ≡ known ++ known_in block v ∷ []
    → values_from p block next ≡ drop 1 (values_from p block (Some node)) → IfSome next (λ n. IsIn p n block) → AreListed p block keys' known' old next
listed_next p valid block keys keys' known known' old node v next listed e insert more rest there =
    let q = p.procedure in
    let vs = values_of q block in
    let whole = old ++ map (known_in block) vs in
    let before = λ (ws : List Value). known ++ map (known_in block) ws in
    let place = listed.place in
    let at : listed.walk.place ≡ place = omega (arith, listed.count, listed.walk.count) in
    let stands : StandsAt q block place v = subst (λ n. StandsAt q block n v) at (walk_stands p block node v before whole listed.walk e) in
    let new : list_any (nat_eq v.id) keys ≡ false =
    subst (λ (ks : List ℕ). list_any (nat_eq v.id) ks ≡ false) (sym listed.are) (is_new q valid block place v stands) in
    let long : length (values_from p block (Some node)) ≡ suc (length (values_from p block next)) =
    ap (λ (ws : List Value). length ws) (values_next p block node v next e rest) in
    record {
      walk = walk_next p block node v next before (λ (ws : List Value). known' ++ map (known_in block) ws) whole listed.walk e
          (λ ws. joined known known' (known_in block v ∷ []) (map (known_in block) ws) more) rest there;
      place = place + 1;
      count = omega (arith, listed.count, long);
      are = added keys keys' v.id insert new ∙ ap (λ (ks : List ℕ). ks ++ v.id ∷ []) listed.are
          ∙ append_assoc (ids (row (take block q.blocks))) (ids (take place vs)) (v.id ∷ [])
          ∙ ap (λ (l : List ℕ). ids (row (take block q.blocks)) ++ l)
          (sym (map-append (λ (w : Value). w.id) (take place vs) (v ∷ [])) ∙ ap ids (sym (take_item vs place v stands)));
    }
  where
    added : (ks ks' : List ℕ) (id : ℕ) → ks' ≡ insert_key nat_eq ks id → list_any (nat_eq id) ks ≡ false → ks' ≡ ks ++ id ∷ []
    added ks ks' id same none = same ∙ rw none refl

pub listed_end : (p : Kept) (block : ℕ) (keys : List ℕ) (known old : List Known) → block < length p.procedure.blocks → AreListed p block keys known old None
    → (keys ≡ ids_before p.procedure (block + 1) 0) × (known ≡ old ++ map (known_in block) (values_of p.procedure block))
listed_end p block keys known old lt listed =
    let q = p.procedure in
    let vs = values_of q block in
    let all : take listed.place vs ≡ vs = take_all listed.place vs (omega (arith, listed.count)) in (
      listed.are ∙ ap (λ (l : List Value). ids (row (take block q.blocks)) ++ ids l) all
          ∙ sym (map-append (λ (w : Value). w.id) (row (take block q.blocks)) vs) ∙ ap ids (sym (row_next q.blocks block lt))
          ∙ sym (append-nil (ids (row (take (block + 1) q.blocks)))),
      sym (append-nil known) ∙ listed.walk.makes,
    )

-- what is known of the values of the blocks before one, with those from it on
pub record AreKnown (p : Procedure) (keys : List ℕ) (known : List Known) (block : ℕ) : Type 0 where
  pub keys_are : keys ≡ ids_before p block 0
  pub known_are : known ++ known_from block (drop block p.blocks) ≡ known_from 0 p.blocks

pub known_next : (p : Procedure) (keys keys' : List ℕ) (known known' : List Known) (block : ℕ) → block < length p.blocks → AreKnown p keys known block
    → keys' ≡ ids_before p (block + 1) 0 → known' ≡ known ++ map (known_in block) (values_of p block) → AreKnown p keys' known' (block + 1)
known_next p keys keys' known known' block lt so_far ids_are more =
    let behind = drop (block + 1) p.blocks in
    let here = map (known_in block) (values_of p block) in
    let step : known_from block (drop block p.blocks) ≡ here ++ known_from (block + 1) behind =
    ap (known_from block) (drop_more p.blocks block no_block lt) ∙ ap (λ n. here ++ known_from n behind) (next block) in
    record {
      keys_are = ids_are;
      known_are = joined known known' here (known_from (block + 1) behind) more ∙ ap (λ l. known ++ l) (sym step) ∙ so_far.known_are;
    }
  where
    next : (n : ℕ) → suc n ≡ n + 1
    next n = omega arith

pub known_end : (p : Procedure) (keys : List ℕ) (known : List Known) (block : ℕ) → length p.blocks ≤ block → AreKnown p keys known block
    → (keys ≡ ids_of p) × (known ≡ known_from 0 p.blocks)
known_end p keys known block end so_far = (
  so_far.keys_are ∙ append-nil (ids (row (take block p.blocks))) ∙ ap (λ (bs : List Block). ids (row bs)) (take_all block p.blocks end),
  sym (append-nil known) ∙ subst (λ (bs : List Block). known ++ known_from block bs ≡ known_from 0 p.blocks) (drop_all block p.blocks end) so_far.known_are,
)

pub few_ids : (p : Procedure) → total p ≤ 16384 → length (ids_of p) ≤ 16384
few_ids p few = omega (arith, length-map (all_values p) (λ (v : Value). v.id), length-flat_map (λ (b : Block). b.values) p.blocks)
