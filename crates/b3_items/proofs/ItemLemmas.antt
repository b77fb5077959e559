-- Items.
use Rattle.std.proofs.Common.{◌≡◌, ℕ, suc, Bool, true, false, cond, not, ◌&&◌, List, [], ◌∷◌, length, take, drop, refl, sym, ◌∙◌, ap}
use Rattle.std.specs.Prelude.{◌==◌}
use Rattle.std.proofs.lemmas.List.{nil_from_length}
use Rattle.b3_items.specs.Items.{cut_items, items_of, item_len, onto_item, stays_inside}

-- a comma ends an item, and another byte goes on with it
cut_on : (inside : Bool) (c : ℕ) (bytes : List ℕ) (b : ℕ) (rest : List ℕ) (x : Bool)
    → (drop (item_len (stays_inside inside c) bytes) bytes ≡ b ∷ rest
    → cut_items (stays_inside inside c) bytes ≡ take (item_len (stays_inside inside c) bytes) bytes ∷ cut_items false rest)
    → drop (cond x 0 (suc (item_len (stays_inside inside c) bytes))) (c ∷ bytes) ≡ b ∷ rest
    → cond x ([] ∷ cut_items false bytes) (onto_item c (cut_items (stays_inside inside c) bytes))
    ≡ take (cond x 0 (suc (item_len (stays_inside inside c) bytes))) (c ∷ bytes) ∷ cut_items false rest
cut_on inside c bytes b rest true more e = let same : bytes ≡ rest = cc in rw same refl
cut_on inside c bytes b rest false more e = rw (more e) refl

cut_at : (inside : Bool) (bytes : List ℕ) (b : ℕ) (rest : List ℕ) → drop (item_len inside bytes) bytes ≡ b ∷ rest
    → cut_items inside bytes ≡ take (item_len inside bytes) bytes ∷ cut_items false rest
unfolding cut_items item_len
cut_at inside [] b rest e = absurd cc
cut_at inside (c ∷ bytes) b rest e = cut_on inside c bytes b rest ((c == 44) && not inside) (cut_at (stays_inside inside c) bytes b rest) e

end_on : (inside : Bool) (c : ℕ) (bytes : List ℕ) (x : Bool) → (drop (item_len (stays_inside inside c) bytes) bytes ≡ []
    → cut_items (stays_inside inside c) bytes ≡ take (item_len (stays_inside inside c) bytes) bytes ∷ [])
    → drop (cond x 0 (suc (item_len (stays_inside inside c) bytes))) (c ∷ bytes) ≡ []
    → cond x ([] ∷ cut_items false bytes) (onto_item c (cut_items (stays_inside inside c) bytes))
    ≡ take (cond x 0 (suc (item_len (stays_inside inside c) bytes))) (c ∷ bytes) ∷ []
end_on inside c bytes true more e = absurd cc
end_on inside c bytes false more e = rw (more e) refl

cut_end : (inside : Bool) (bytes : List ℕ) → drop (item_len inside bytes) bytes ≡ [] → cut_items inside bytes ≡ take (item_len inside bytes) bytes ∷ []
unfolding cut_items item_len
cut_end inside [] e = refl
cut_end inside (c ∷ bytes) e = end_on inside c bytes ((c == 44) && not inside) (cut_end (stays_inside inside c) bytes) e

pub items_cut : (text rest : List ℕ) (b n : ℕ) → n ≡ item_len false text → drop n text ≡ b ∷ rest → items_of text ≡ take n text ∷ items_of rest
unfolding items_of
items_cut text rest b n is e = rw is (cut_at false text b rest (ap (λ (k : ℕ). drop k text) (sym is) ∙ e))

pub items_end : (text : List ℕ) (n : ℕ) → n ≡ item_len false text → length (drop n text) ≡ 0 → items_of text ≡ take n text ∷ []
unfolding items_of
items_end text n is e = rw is (cut_end false text (ap (λ (k : ℕ). drop k text) (sym is) ∙ nil_from_length (drop n text) e))
