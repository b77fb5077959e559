-- How the code of a list grows by that of one item more.
use Rattle.std.proofs.Common.{◌≡◌, ℕ, zero, suc, ◌+◌, ◌-◌, ◌<◌, ◌≤◌, Bool, true, false, nat_eq, List, [], ◌∷◌, ◌++◌, refl, sym, ap, ◌∙◌, subst, arith, length, take, get_or, append_assoc, append-nil}
use Rattle.std.specs.Prelude.{if◌then◌else◌}
use Rattle.b3_base.specs.declared.word.Width.{Width}
use Rattle.stackmap.specs.declared.site.SavedRow.{SavedRow}
use Rattle.a64_inst.specs.declared.inst.Inst.{Inst}
use Rattle.a64_inst.specs.declared.item.Item.{Item}
use Rattle.air_ir.specs.declared.frame.Frame.{Frame}
use Rattle.a64_inst.specs.declared.item.Item.TheVariants.{Plain}
use Rattle.a64_code.specs.Constants.{filling, half_move, half_moves, half_word, halves_like}
use Rattle.a64_code.specs.Places.{above_sp, load_at, plains, restores, saves, store_at}

pub plains_both : (xs ys : List Inst) → plains (xs ++ ys) ≡ plains xs ++ plains ys
plains_both [] ys = refl
plains_both (x ∷ xs) ys = ap (λ (zs : List Item). plains (x ∷ []) ++ zs) (plains_both xs ys)

saves_take : (f : Frame) (rows : List SavedRow) (i : ℕ) (d : SavedRow) → i < length rows
    → saves f (take (suc i) rows) ≡ saves f (take i rows) ++ store_at (get_or rows i d).reg.0 (above_sp f (get_or rows i d).offset)
unfolding saves
saves_take f [] i d lt = absurd (omega arith)
saves_take f (row ∷ rows) zero d lt = append-nil (store_at row.reg.0 (above_sp f row.offset))
saves_take f (row ∷ rows) (suc i) d lt =
    ap (λ (xs : List Inst). store_at row.reg.0 (above_sp f row.offset) ++ xs) (saves_take f rows i d (omega arith))
    ∙ sym (append_assoc (store_at row.reg.0 (above_sp f row.offset)) (saves f (take i rows))
    (store_at (get_or rows i d).reg.0 (above_sp f (get_or rows i d).offset)))

restores_take : (f : Frame) (rows : List SavedRow) (i : ℕ) (d : SavedRow) → i < length rows
    → restores f (take (suc i) rows) ≡ restores f (take i rows) ++ load_at (get_or rows i d).reg.0 (above_sp f (get_or rows i d).offset)
unfolding restores
restores_take f [] i d lt = absurd (omega arith)
restores_take f (row ∷ rows) zero d lt = append-nil (load_at row.reg.0 (above_sp f row.offset))
restores_take f (row ∷ rows) (suc i) d lt =
    ap (λ (xs : List Inst). load_at row.reg.0 (above_sp f row.offset) ++ xs) (restores_take f rows i d (omega arith))
    ∙ sym (append_assoc (load_at row.reg.0 (above_sp f row.offset)) (restores f (take i rows))
    (load_at (get_or rows i d).reg.0 (above_sp f (get_or rows i d).offset)))

add_one : (i : ℕ) → suc i ≡ i + 1
add_one i = omega arith

-- one row more is saved, and restored
pub saves_none : (f : Frame) (rows : List SavedRow) (code : List Item) → code ≡ code ++ plains (saves f (take 0 rows))
unfolding saves
saves_none f rows code = sym (append-nil code)

pub saves_more : (f : Frame) (rows : List SavedRow) (i : ℕ) (d : SavedRow) (code now after : List Item) → i < length rows
    → now ≡ code ++ plains (saves f (take i rows))
    → after ≡ now ++ plains (store_at (get_or rows i d).reg.0 (above_sp f (get_or rows i d).offset)) → after ≡ code ++ plains (saves f (take (i + 1) rows))
saves_more f rows i d code now after lt before pushed =
    let more : List Inst = store_at (get_or rows i d).reg.0 (above_sp f (get_or rows i d).offset) in
    pushed ∙ ap (λ (xs : List Item). xs ++ plains more) before ∙ append_assoc code (plains (saves f (take i rows))) (plains more)
    ∙ ap (λ (xs : List Item). code ++ xs) (sym (plains_both (saves f (take i rows)) more))
    ∙ ap (λ (xs : List Inst). code ++ plains xs) (sym (saves_take f rows i d lt)) ∙ ap (λ n. code ++ plains (saves f (take n rows))) (add_one i)

pub restores_none : (f : Frame) (rows : List SavedRow) (code : List Item) → code ≡ code ++ plains (restores f (take 0 rows))
unfolding restores
restores_none f rows code = sym (append-nil code)

pub restores_more : (f : Frame) (rows : List SavedRow) (i : ℕ) (d : SavedRow) (code now after : List Item) → i < length rows
    → now ≡ code ++ plains (restores f (take i rows))
    → after ≡ now ++ plains (load_at (get_or rows i d).reg.0 (above_sp f (get_or rows i d).offset)) → after ≡ code ++ plains (restores f (take (i + 1) rows))
restores_more f rows i d code now after lt before pushed =
    let more : List Inst = load_at (get_or rows i d).reg.0 (above_sp f (get_or rows i d).offset) in
    pushed ∙ ap (λ (xs : List Item). xs ++ plains more) before ∙ append_assoc code (plains (restores f (take i rows))) (plains more)
    ∙ ap (λ (xs : List Item). code ++ xs) (sym (plains_both (restores f (take i rows)) more))
    ∙ ap (λ (xs : List Inst). code ++ plains xs) (sym (restores_take f rows i d lt)) ∙ ap (λ n. code ++ plains (restores f (take n rows))) (add_one i)

pub saves_next : (f : Frame) (items rows : List SavedRow) (i at : ℕ) (d : SavedRow) (code now after : List Item) → items ≡ rows → i < length items
    → now ≡ code ++ plains (saves f (take i rows))
    → at ≡ above_sp f (get_or items i d).offset → after ≡ now ++ plains (store_at (get_or items i d).reg.0 at)
    → after ≡ code ++ plains (saves f (take (i + 1) rows))
saves_next f items rows i at d code now after same lt before is pushed =
    saves_more f rows i d code now after (subst (λ (xs : List SavedRow). i < length xs) same lt) before
    (pushed ∙ ap (λ n. now ++ plains (store_at (get_or items i d).reg.0 n)) is
    ∙ ap (λ (xs : List SavedRow). now ++ plains (store_at (get_or xs i d).reg.0 (above_sp f (get_or xs i d).offset))) same)

pub restores_next : (f : Frame) (items rows : List SavedRow) (i at : ℕ) (d : SavedRow) (code now after : List Item) → items ≡ rows → i < length items
    → now ≡ code ++ plains (restores f (take i rows))
    → at ≡ above_sp f (get_or items i d).offset → after ≡ now ++ plains (load_at (get_or items i d).reg.0 at)
    → after ≡ code ++ plains (restores f (take (i + 1) rows))
restores_next f items rows i at d code now after same lt before is pushed =
    restores_more f rows i d code now after (subst (λ (xs : List SavedRow). i < length xs) same lt) before
    (pushed ∙ ap (λ n. now ++ plains (load_at (get_or items i d).reg.0 n)) is
    ∙ ap (λ (xs : List SavedRow). now ++ plains (load_at (get_or xs i d).reg.0 (above_sp f (get_or xs i d).offset))) same)

-- ---- constants

pub halves_more : (word half hw alike one now : ℕ) → alike ≡ halves_like word half hw → one ≡ (if nat_eq (half_word word hw) half then 1 else 0)
    → now ≡ alike + one
    → now ≡ halves_like word half (hw + 1)
unfolding halves_like
halves_more word half hw alike one now before is e =
    let last : halves_like word half (suc hw) ≡ halves_like word half hw + one = ap (λ n. halves_like word half hw + n) (sym is) in
    e ∙ ap (λ n. n + one) before ∙ sym last ∙ ap (halves_like word half) (add_one hw)

pub halves_none : (word half : ℕ) → 0 ≡ halves_like word half 0
unfolding halves_like
halves_none word half = refl

-- a half-word that is the filling is passed over
pub half_passed : (width : Width) (inverted : Bool) (reg word : ℕ) (started : Bool) (hw : ℕ) (code : List Item)
    → nat_eq (half_word word hw) (filling inverted) ≡ true → (n : ℕ)
    → code ++ plains (half_moves width inverted reg word started (suc n) hw) ≡ code ++ plains (half_moves width inverted reg word started n (hw + 1))
unfolding half_moves
half_passed width inverted reg word started hw code e n =
    ap (λ b. code ++ plains (if b then half_moves width inverted reg word started n (hw + 1) else
    half_move width inverted started reg (half_word word hw) hw ∷ half_moves width inverted reg word true n (hw + 1))) e

-- and another one is put
pub half_put : (width : Width) (inverted : Bool) (reg word : ℕ) (started : Bool) (hw : ℕ) (code after : List Item)
    → nat_eq (half_word word hw) (filling inverted) ≡ false
    → after ≡ code ++ Plain (half_move width inverted started reg (half_word word hw) hw) ∷ [] → (n : ℕ)
    → code ++ plains (half_moves width inverted reg word started (suc n) hw) ≡ after ++ plains (half_moves width inverted reg word true n (hw + 1))
unfolding half_moves
half_put width inverted reg word started hw code after e pushed n =
    let rest : List Inst = half_moves width inverted reg word true n (hw + 1) in
    let one : Item = Plain (half_move width inverted started reg (half_word word hw) hw) in
    ap (λ b. code ++ plains (if b then half_moves width inverted reg word started n (hw + 1) else
    half_move width inverted started reg (half_word word hw) hw ∷ half_moves width inverted reg word true n (hw + 1))) e
    ∙ sym (append_assoc code (one ∷ []) (plains rest)) ∙ ap (λ (xs : List Item). xs ++ plains rest) (sym pushed)

-- no half-word is left
pub halves_done : (width : Width) (inverted : Bool) (reg word : ℕ) (started : Bool) (count hw : ℕ) (code after whole : List Item) → hw ≤ count → count ≤ hw
    → code ++ plains (half_moves width inverted reg word started (count - hw) hw) ≡ whole
    → after ≡ code ++ plains (if started then [] else half_move width inverted false reg (filling inverted) 0 ∷ []) → after ≡ whole
unfolding half_moves
halves_done width inverted reg word started count hw code after whole le ge before pushed =
    let none : 0 ≡ count - hw = omega arith in
    pushed ∙ ap (λ n. code ++ plains (half_moves width inverted reg word started n hw)) none ∙ before
