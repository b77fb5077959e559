-- What a `&` to a block shows, and how a `&mut` to one of its values leads back to the block. Assumes `Logic`.
use Rattle.std.proofs.Common.{◌≡◌, ℕ, zero, suc, ◌+◌, ◌-◌, ◌*◌, ◌<◌, ◌^◌, List, [], ◌∷◌, length, get_or, refl, sym, ap, ◌∙◌, arith, suc-mul, zero-mul, length-set}
use seplogic.Ra.Ura.{Ura}
use base.Fraction.{full_share}
use mir.Syntax.{ty_ptr}
use mir.Val.{Val, vptr}
use base.Logic.{ent, sep}
use base.Fml.{Lft, Share, Fml, fsep, fat, froom, flft, fhide}
use types.Logic.{Logic, sem}
use types.Kit.{Goal, Soaks, Step, step, Seq, Item, ‵, ◌⊛◌, ◌$◌, ◌∵◌, !, qed, move, keep, drop, use1, use2, split, rewrite, fsplit, fsplit3, fjoin, fpack, feq_l, feq_i, done}
use denote.Copied.{plain_Copied}
use denote.Memory.{cell_at, part_at, part_of, hidden_shr, shared_of, mem}
use denote.Opens.{Shut, unhide}
use denote.RawPtr.{Ptr, RawPtr, block_ptr, coded_ptr, ptr_own, rawptr_pure, ptr_val}
use denote.Slice.{elements_shared}
use denote.Steps.{looks, shuts}
use denote.Struct.Laws.{RawPtr-laws}
use denote.Struct.Lending.{lent_out}
use Rattle.std.proofs.mem.Param.{El, R, el_x}
use Rattle.std.proofs.alloc.Calls.{Al}
use Rattle.std.specs.contracts.marker.PhantomData as phantom
use Rattle.ir_arena.specs.Block.{room_of, block_lends}
use Rattle.ir_arena.specs.BlockLends.{with_item}
use Rattle.ir_arena.specs.contracts.raw.Block as C
use Rattle.ir_arena.proofs.BlockRows.{bytes, value, values, rest_of, value_back}
use Rattle.ir_arena.proofs.Blocks.{Block, Handle, Words, block_val, block_made, room_after, right}

module _ (V : El) (Y : Al) {M : Type 1} {𝓤 : Ura M} (𝓛 : Logic 𝓤) (κ : Lft) where
  -- [a `&` to the pointer; a `&` to each value]
  pub block_shown : (h : (Block V Y).Denot) (ref_block ref_offset : ℕ)
      → ent 𝓤 (sem 𝓛 (hidden_shr (Block V Y) κ h ref_block ref_offset)) (sep 𝓤 (sem 𝓛 (hidden_shr RawPtr κ h.start ref_block (ref_offset + 0))) (sem 𝓛 (block_lends (R V) h.start h.items κ)))
  block_shown h ref_block ref_offset = qed 𝓛 (‵ (hidden_shr (Block V Y) κ h ref_block ref_offset) ∷ []) ∵
      use1 𝓛 (‵ (hidden_shr (Words V Y) κ (h.start, (tt, tt)) ref_block ref_offset) ⊛ ‵ (fhide (C.the_lent (R V) (Handle V Y) Y.g h h.start κ)))
      (lent_out 𝓛 (C.struct (R V) (Handle V Y) Y.g) (C.the_codes (R V).Denot (Handle V Y).Denot (R V).coded (Handle V Y).coded (phantom.the_row (Handle V Y)).coded) (C.the_heap (R V) (Handle V Y) Y.g) (C.the_lent (R V) (Handle V Y) Y.g) κ h ref_block ref_offset) $
      split ! $ unhide ! $ fsplit ! $ fsplit ! $ keep ! (0 ∷ 3 ∷ []) $ done !

module _ (V : El) {M : Type 1} {𝓤 : Ura M} (𝓛 : Logic 𝓤) (κ : Lft) (b : ℕ) where
  -- a `&` to each value holds one to the value at a place
  pub value_seen : (xs : List (el_x V)) (at : ℕ) (d : el_x V) (o : ℕ) → at < length xs
      → ent 𝓤 (sem 𝓛 (elements_shared (R V) xs b o κ)) (sem 𝓛 (hidden_shr (R V) κ (get_or xs at d) b (at * bytes V + o)))
  value_seen [] at d o below = absurd (omega arith)
  value_seen (x ∷ xs) zero d o below =
      let here : o ≡ 0 * bytes V + o = omega (arith, zero-mul (bytes V)) in
      qed 𝓛 (‵ (elements_shared (R V) (x ∷ xs) b o κ) ∷ []) ∵ fsplit ! $ keep ! (0 ∷ []) $
      rewrite ! 0 (λ (k : ℕ). ‵ (shared_of (R V) x b k κ)) here refl $ done !
  value_seen (x ∷ xs) (suc at) d o below =
      let on : at * bytes V + (o + bytes V) ≡ suc at * bytes V + o = omega (arith, suc-mul at (bytes V)) in
      qed 𝓛 (‵ (elements_shared (R V) (x ∷ xs) b o κ) ∷ []) ∵ fsplit ! $ drop ! $
      use1 𝓛 (‵ (hidden_shr (R V) κ (get_or xs at d) b (at * bytes V + (o + bytes V)))) (value_seen xs at d (o + bytes V) (omega arith)) $
      rewrite ! 0 (λ (k : ℕ). ‵ (hidden_shr (R V) κ (get_or xs at d) b k)) on refl $ done !

module _ {M : Type 1} {𝓤 : Ura M} {𝓛 : Logic 𝓤} {K : Type 0} {Γ : List (Item 𝓤)} {G : Goal 𝓤 𝓛.H} where
  -- a pointer into a block is read through a `&`: [its cell; the way back]
  pub pointer_read : K → Soaks G → {κ : Lft} {q : Share} (p : Ptr) (b o : ℕ) → p ≡ block_ptr b o → (ref_block ref_offset : ℕ)
      → ((q' : Share) → Seq K 𝓛 (‵ (fat q' ty_ptr ref_block ref_offset (vptr b o)) ∷ Shut 𝓛 κ q (part_at RawPtr q' p ref_block ref_offset) ∷ Γ) G) → Seq K 𝓛 (‵ (hidden_shr RawPtr κ p ref_block ref_offset) ∷ ‵ (flft κ q) ∷ Γ) G
  pointer_read t z p b o at ref_block ref_offset k =
      let opens = (plain_Copied 𝓛 Ptr coded_ptr (ty_ptr ∷ []) ptr_own rawptr_pure ptr_val RawPtr-laws.tells).opens in
      looks t z RawPtr opens p ref_block ref_offset (λ q' vs. move t (1 ∷ []) $ feq_l t (λ e.
      rewrite t 0 (λ (us : List Val). ‵ (cell_at q' RawPtr.mir us ref_block ref_offset)) (e ∙ ap (λ (r : Ptr). ptr_val r ∷ []) at) refl $ move t (2 ∷ []) $ drop t $ k q'))

  pub pointer_shut : K → Soaks G → {κ : Lft} {q q' : Share} (p : Ptr) (b o : ℕ) → p ≡ block_ptr b o → (ref_block ref_offset : ℕ)
      → Step K 𝓛 (‵ (flft κ q) ∷ Γ) G (‵ (fat q' ty_ptr ref_block ref_offset (vptr b o)) ∷ Shut 𝓛 κ q (part_at RawPtr q' p ref_block ref_offset) ∷ Γ) G
  pointer_shut t z {q' = q'} p b o at ref_block ref_offset = step (λ s.
      feq_i t (List Val) (vptr b o ∷ []) (ptr_val p ∷ []) (ap (λ (r : Ptr). ptr_val r ∷ []) (sym at)) $ move t (1 ∷ 0 ∷ []) $ shuts t z RawPtr q' p (vptr b o ∷ []) ref_block ref_offset $ s)

module _ (V : El) (Y : Al) (h : (Block V Y).Denot) (i b o ref_block ref_offset : ℕ) where
  -- the block but for the value at a place
  abbrev pub BlockRest : Fml
  BlockRest = fsep (rest_of V h.items i b o) (fsep (room_after V Y h.items b o) (fsep (right V Y h.alloc b o) (cell_at full_share (Block V Y).mir (block_val (block_ptr b o) ∷ []) ref_block ref_offset)))

  module _ {M : Type 1} {𝓤 : Ura M} (𝓛 : Logic 𝓤) where
    pub block_again : h.start ≡ block_ptr b o → 64 * bytes V < 2 ^ 63 → length h.items < 65 → i < length h.items → (w : el_x V)
        → ent 𝓤 (sep 𝓤 (sem 𝓛 ((mem (R V)).own_at w b (i * bytes V + o))) (sem 𝓛 BlockRest)) (sem 𝓛 ((mem (Block V Y)).own_at (with_item (R V) (Handle V Y) Y.g h i w) ref_block ref_offset))
    unfolding part_of
    block_again at small few below w =
        let new = with_item (R V) (Handle V Y) Y.g h i w in
        let long : length new.items ≡ length h.items = length-set h.items i w in
        qed 𝓛 (‵ (value V w b (i * bytes V + o)) ∷ ‵ BlockRest ∷ []) ∵ move ! (1 ∷ []) $ fsplit3 ! $ move ! (3 ∷ 0 ∷ 1 ∷ 2 ∷ []) $
        use2 𝓛 (‵ (values V new.items b o)) (value_back V 𝓛 b h.items i w o below) $
        rewrite ! 1 (λ (k : ℕ). ‵ (froom (room_of (R V) (64 - k)) b (k * bytes V + o))) (sym long) refl $ move ! (2 ∷ []) $ fsplit ! $ move ! (2 ∷ 3 ∷ 0 ∷ 1 ∷ []) $
        block_made V Y ! new b o at small (omega (arith, long, few)) $ move ! (1 ∷ 0 ∷ []) $ fjoin ! $
        fpack ! (List Val) (λ us. fsep (cell_at full_share (Block V Y).mir us ref_block ref_offset) ((Block V Y).own_val new us)) (block_val (block_ptr b o) ∷ []) $ done !
