-- Items that stand behind commas are gathered.
use Rattle.std.proofs.Common.{◌≡◌, ℕ, Bool, true, false, cond, not, ◌&&◌, List, [], ◌∷◌, ◌++◌, map, take, drop, Option, Some, None, refl, sym, ◌∙◌, ap}
use Rattle.std.specs.Prelude.{◌==◌, option_and_then}
use Rattle.std.specs.List.{list_all}
use Rattle.b3_lines.specs.Tokens.{is_blank, is_mark, piece_len, tokens}
use Rattle.b3_lines.proofs.TokenLemmas.{tokens_blank, tokens_mark, tokens_nil, tokens_piece}
use Rattle.b3_ir.specs.declared.table.Carries.{Carries}
use Rattle.b3_items.specs.declared.items.Item.{Item}
use Rattle.b3_items.specs.Items.{cut_items, item_of, items_of, onto_item, stays_inside}
use Rattle.b3_rows.specs.declared.gathered.Gathered.{Gathered}
use Rattle.b3_rows.specs.Gathering.{gather, gather_in, items_in, nothing, put_in}
use Rattle.b3_rows.specs.Written.{joined}
use Rattle.b3_written.proofs.ItemTexts.{Says, begins_ink, one_alone, one_and_more}
use Rattle.b3_written.proofs.RoundLemmas.{all_append, quiet}

-- texts that say these items
abbrev pub Say : List (List ℕ) → List Item → Type 0
Say [] [] = Unit {0}
Say (t ∷ ts) (i ∷ is) = Says t i × Say ts is
Say ts is = ⊥

pub say_both : (ts us : List (List ℕ)) (is js : List Item) → Say ts is → Say us js → Say (ts ++ us) (is ++ js)
say_both [] us [] js h k = k
say_both [] us (i ∷ is) js h k = absurd h
say_both (t ∷ ts) us [] js h k = absurd h
say_both (t ∷ ts) us (i ∷ is) js h k = (h.0, say_both ts us is js h.1 k)

-- items one after the other
abbrev pub put_all : Carries → Gathered → List Item → Option Gathered
put_all c g [] = Some g
put_all c g (i ∷ is) = option_and_then (λ h. put_all c h is) (put_in c g i)

then_same : {A B : Type 0} (f g : A → Option B) (o : Option A) → ((x : A) → f x ≡ g x) → option_and_then f o ≡ option_and_then g o
then_same f g None e = refl
then_same f g (Some x) e = e x

gather_on : Carries → Gathered → List (List (List ℕ)) → Option Gathered
gather_on c g [] = Some g
gather_on c g (ts ∷ more) = option_and_then (λ i. option_and_then (λ h. gather_on c h more) (put_in c g i)) (item_of ts)

gather_by : (c : Carries) (g : Gathered) (texts : List (List ℕ)) → gather c g texts ≡ gather_on c g (map tokens texts)
unfolding gather gather_on
gather_by c g [] = refl
gather_by c g (text ∷ more) =
    then_same (λ i. option_and_then (λ h. gather c h more) (put_in c g i)) (λ i. option_and_then (λ h. gather_on c h (map tokens more)) (put_in c g i))
    (item_of (tokens text))
    (λ i. then_same (λ h. gather c h more) (λ h. gather_on c h (map tokens more)) (put_in c g i) (λ h. gather_by c h more))

said : (c : Carries) (g : Gathered) (ts : List (List ℕ)) (is : List Item) → Say ts is → gather_on c g (map tokens ts) ≡ put_all c g is
unfolding gather_on
said c g [] [] h = refl
said c g [] (i ∷ is) h = absurd h
said c g (t ∷ ts) [] h = absurd h
said c g (t ∷ ts) (i ∷ is) h =
    rw h.0.item (then_same (λ k. gather_on c k (map tokens ts)) (λ k. put_all c k is) (put_in c g i) (λ k. said c k ts is h.1))

-- ---- joined items are cut again

some_on : (c : ℕ) (bytes : List ℕ) (x : Bool) (items : List (List ℕ)) → (first : List ℕ) × (more : List (List ℕ)) × (items ≡ first ∷ more)
    → (first : List ℕ) × (more : List (List ℕ)) × (cond x ([] ∷ cut_items false bytes) (onto_item c items) ≡ first ∷ more)
some_on c bytes true items some = ([], cut_items false bytes, refl)
some_on c bytes false items some = (c ∷ some.0, some.1, ap (onto_item c) some.2)

cut_some : (inside : Bool) (bytes : List ℕ) → (first : List ℕ) × (more : List (List ℕ)) × (cut_items inside bytes ≡ first ∷ more)
unfolding cut_items
cut_some inside [] = ([], [], refl)
cut_some inside (c ∷ bytes) =
    some_on c bytes ((c == 44) && not inside) (cut_items (stays_inside inside c) bytes) (cut_some (stays_inside inside c) bytes)

blank_cut : (bytes : List ℕ) → cut_items false (32 ∷ bytes) ≡ onto_item 32 (cut_items false bytes)
unfolding cut_items
blank_cut bytes = refl

blank_first : (bytes : List ℕ) → map tokens (cut_items false (32 ∷ bytes)) ≡ map tokens (cut_items false bytes)
unfolding is_blank
blank_first bytes =
    let some = cut_some false bytes in
    ap (map tokens) (blank_cut bytes ∙ ap (onto_item 32) some.2)
    ∙ ap (λ (t : List (List ℕ)). t ∷ map tokens some.1) (tokens_blank 32 some.0 refl)
    ∙ ap (map tokens) (sym some.2)

joined_cut : (t : List ℕ) (ts : List (List ℕ)) (is : List Item) → Say (t ∷ ts) is → map tokens (items_of (joined (t ∷ ts))) ≡ map tokens (t ∷ ts)
unfolding items_of
joined_cut t ts [] h = absurd h
joined_cut t [] (i ∷ is) h = ap (map tokens) (one_alone false t h.0.one)
joined_cut t (u ∷ ts) (i ∷ is) h =
    ap (map tokens) (one_and_more false t (32 ∷ joined (u ∷ ts)) h.0.one)
    ∙ ap (λ (xs : List (List (List ℕ))). tokens t ∷ xs) (blank_first (joined (u ∷ ts)) ∙ joined_cut u ts is h.1)

-- ---- items between parentheses

tokens_on : (b : ℕ) (bytes : List ℕ) (x : Bool) → is_mark b ≡ x → is_blank b ≡ false
    → (first : List ℕ) × (more : List (List ℕ)) × (tokens (b ∷ bytes) ≡ first ∷ more)
tokens_on b bytes true m h = (b ∷ [], tokens bytes, tokens_mark b bytes h m)
tokens_on b bytes false m h = (b ∷ take (piece_len bytes) bytes, tokens (drop (piece_len bytes) bytes), tokens_piece b bytes h m)

not_true : (x : Bool) → not x ≡ true → x ≡ false
not_true true h = absurd cc
not_true false h = refl

ink_tokens : (text : List ℕ) → begins_ink text ≡ true → (first : List ℕ) × (more : List (List ℕ)) × (tokens text ≡ first ∷ more)
ink_tokens [] h = absurd cc
ink_tokens (b ∷ bytes) h = tokens_on b bytes (is_mark b) refl (not_true (is_blank b) h)

ink_joined : (t : List ℕ) (ts : List (List ℕ)) → begins_ink t ≡ true → begins_ink (joined (t ∷ ts)) ≡ true
ink_joined [] ts h = absurd cc
ink_joined (b ∷ t) [] h = h
ink_joined (b ∷ t) (u ∷ ts) h = h

-- what is between the parentheses
pub items_again : (c : Carries) (ts : List (List ℕ)) (is : List Item) → Say ts is → items_in c (joined ts) ≡ put_all c nothing is
unfolding items_in
items_again c [] [] h = ap (gather_in c []) tokens_nil
items_again c [] (i ∷ is) h = absurd h
items_again c (t ∷ ts) [] h = absurd h
items_again c (t ∷ ts) (i ∷ is) h =
    let some = ink_tokens (joined (t ∷ ts)) (ink_joined t ts h.0.ink) in
    ap (gather_in c (joined (t ∷ ts))) some.2
    ∙ gather_by c nothing (items_of (joined (t ∷ ts)))
    ∙ ap (gather_on c nothing) (joined_cut t ts (i ∷ is) h)
    ∙ said c nothing (t ∷ ts) (i ∷ is) h

-- ---- bytes of joined items

pub joined_quiet : (ts : List (List ℕ)) (is : List Item) → Say ts is → list_all quiet (joined ts) ≡ true
unfolding quiet
joined_quiet [] is h = refl
joined_quiet (t ∷ ts) [] h = absurd h
joined_quiet (t ∷ []) (i ∷ is) h = h.0.quiet
joined_quiet (t ∷ u ∷ ts) (i ∷ is) h = all_append quiet t (44 ∷ 32 ∷ joined (u ∷ ts)) h.0.quiet (joined_quiet (u ∷ ts) is h.1)
