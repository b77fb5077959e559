-- Emitted code is no longer than its procedure weighs.
use Rattle.std.proofs.Common.{◌≡◌, ℕ, zero, suc, ◌+◌, ◌-◌, ◌/◌, ◌%◌, ◌<◌, ◌≤◌, Bool, true, false, List, [], ◌∷◌, ◌++◌, length, get_or, take, refl, sym, ap, ◌∙◌, subst, arith, length-append}
use Rattle.std.specs.Prelude.{nat_eq, nat_le, nat_lt, slice_get, if◌then◌else◌}
use Rattle.std.specs.List.{sum_by}
use Rattle.std.proofs.lemmas.List.{take_all}
use Rattle.std.proofs.lemmas.List.Sums.{sum_by-cons, sum_by_more, sum_by_more_le}
use Rattle.std.proofs.lemmas.Option.{slice_get-get_or}
use Rattle.b3_base.specs.declared.word.Width.{Width}
use Rattle.b3_base.specs.declared.word.Width.TheVariants.{W32, W64}
use Rattle.a64_inst.specs.declared.inst.Inst.{Inst}
use Rattle.a64_inst.specs.declared.inst.Inst.TheVariants.{Access, AddSubImm}
use Rattle.a64_inst.specs.declared.inst.AccessKind.TheVariants.{LdrX, StrX}
use Rattle.a64_inst.specs.declared.item.Item.{Item}
use Rattle.a64_inst.specs.declared.item.Item.TheVariants.{Label, Plain}
use Rattle.air_ir.specs.Weight.{arg_words}
use Rattle.air_ir.specs.declared.frame.Frame.{Frame}
use Rattle.air_ir.specs.declared.op.AirOp.{AirOp}
use Rattle.air_ir.specs.declared.operand.Arg.{Arg}
use Rattle.air_ir.specs.declared.operand.Arg.TheVariants.{At, Imm, Addr, Index, FrameSlot}
use Rattle.air_ir.specs.declared.operand.Home.TheVariants.{Reg, Spill, Tmp}
use Rattle.air_ir.specs.declared.operand.Operand.{Operand}
use Rattle.air_ir.specs.declared.operand.Role.TheVariants.{Use}
use Rattle.a64_layout.specs.Branch.{size_in, size_of}
use Rattle.a64_layout.specs.Layout.{most_words, place}
use Rattle.a64_layout.proofs.Least.{place-suc, place-zero}
use Rattle.a64_emit.specs.Code.{arg_at, bring, compute_code, fetch, fetch_below, put_result, result_at, result_reg, source_at, width_at}
use Rattle.a64_code.specs.Computing.{computing, move_reg}
use Rattle.a64_code.specs.Constants.{constant, filling, half_move, half_moves, half_word, is_inverted}
use Rattle.a64_code.specs.Places.{above_sp, load_at, plains, spill_offset, store_at}

-- ---- words of items, where all branches are long

abbrev pub words_of : List Item → ℕ
words_of items = sum_by (size_of true) items

place_is : (items : List Item) (k : ℕ) → k ≤ length items → place items (λ j. true) k ≡ words_of (take k items)
place_is items zero le = place-zero items (λ j. true)
place_is items (suc k) le =
    let rest = place_is items k (omega arith) in
    let next = place-suc items (λ j. true) k in
    let here : size_in true (slice_get items k) ≡ size_of true (get_or items k (Label 0)) =
    ap (size_in true) (slice_get-get_or items k (Label 0) (omega arith)) in
    let more = sum_by_more (size_of true) items k (Label 0) (omega arith) in
    let e : suc k ≡ k + 1 = omega arith in
    let same : words_of (take (suc k) items) ≡ words_of (take (k + 1) items) = ap (λ n. words_of (take n items)) e in
    omega arith

pub most_is : (items : List Item) → most_words items ≡ words_of items
most_is items = place_is items (length items) (omega arith) ∙ ap words_of (take_all (length items) items (omega arith))

pub plain_words : (insts : List Inst) → words_of (plains insts) ≡ length insts
plain_words [] = refl
plain_words (inst ∷ insts) =
    let more = plain_words insts in
    sum_by-cons (size_of true) (Plain inst) (plains insts) ∙ omega arith

-- ---- words of code

pub load_most : (reg bytes : ℕ) → length (load_at reg bytes) ≤ 2
unfolding load_at
load_most reg bytes = elim (nat_le bytes 32760) as (λ b. length (if b then Access LdrX reg 31 (bytes / 8) ∷ [] else
    AddSubImm W64 false false reg 31 (bytes / 4096) true ∷ Access LdrX reg reg (bytes % 4096 / 8) ∷ []) ≤ 2) [ true ↦ omega arith | false ↦ omega arith ]

pub store_most : (reg bytes : ℕ) → length (store_at reg bytes) ≤ 2
unfolding store_at
store_most reg bytes = elim (nat_le bytes 32760) as (λ b. length (if b then Access StrX reg 31 (bytes / 8) ∷ [] else
    AddSubImm W64 false false 15 31 (bytes / 4096) true ∷ Access StrX reg 15 (bytes % 4096 / 8) ∷ []) ≤ 2) [ true ↦ omega arith | false ↦ omega arith ]

-- the words to load or store what stands in the frame
abbrev pub place_words : Arg → ℕ
place_words (At (Spill n)) = 2
place_words arg = 0

pub place_least : (arg : Arg) → place_words arg ≤ arg_words arg
place_least (At (Spill n)) = omega arith
place_least (At (Reg r)) = omega arith
place_least (At (Tmp n)) = omega arith
place_least (Imm word) = omega arith
place_least (Addr base offset) = omega arith
place_least (Index base index shift) = omega arith
place_least (FrameSlot n) = omega arith

moves_started : (width : Width) (inverted : Bool) (reg word n hw : ℕ) → length (half_moves width inverted reg word true n hw) ≤ n
unfolding half_moves
moves_started width inverted reg word zero hw = omega arith
moves_started width inverted reg word (suc n) hw =
    let more = moves_started width inverted reg word n (hw + 1) in
    elim (nat_eq (half_word word hw) (filling inverted)) as (λ b. length (if b then half_moves width inverted reg word true n (hw + 1) else
    half_move width inverted true reg (half_word word hw) hw ∷ half_moves width inverted reg word true n (hw + 1)) ≤ suc n) [
      | true ↦
          omega arith
      | false ↦ omega arith
    ]

moves_most : (width : Width) (inverted : Bool) (reg word n hw : ℕ) → length (half_moves width inverted reg word false (suc n) hw) ≤ suc n
unfolding half_moves
moves_most width inverted reg word zero hw =
    elim (nat_eq (half_word word hw) (filling inverted)) as (λ b. length (if b then half_moves width inverted reg word false 0 (hw + 1) else
    half_move width inverted false reg (half_word word hw) hw ∷ half_moves width inverted reg word true 0 (hw + 1)) ≤ 1) [
      | true ↦ omega arith
      | false ↦
          omega arith
    ]
moves_most width inverted reg word (suc n) hw =
    let more = moves_most width inverted reg word n (hw + 1) in
    let started = moves_started width inverted reg word (suc n) (hw + 1) in
    elim (nat_eq (half_word word hw) (filling inverted)) as (λ b. length (if b then half_moves width inverted reg word false (suc n) (hw + 1) else
    half_move width inverted false reg (half_word word hw) hw ∷ half_moves width inverted reg word true (suc n) (hw + 1)) ≤ suc (suc n)) [
      | true ↦
          omega arith
      | false ↦ omega arith
    ]

pub constant_most : (width : Width) (reg word : ℕ) → length (constant width reg word) ≤ 4
unfolding constant
constant_most W32 reg word = let most = moves_most W32 (is_inverted W32 word) reg word 1 0 in omega arith
constant_most W64 reg word = moves_most W64 (is_inverted W64 word) reg word 3 0

module _ (f : Frame) where
  pub fetch_most : (scratch : ℕ) (arg : Arg) → length (fetch f scratch arg) ≤ place_words arg
  unfolding fetch
  fetch_most scratch (At (Spill n)) = load_most scratch (above_sp f (spill_offset f n))
  fetch_most scratch (At (Reg r)) = omega arith
  fetch_most scratch (At (Tmp n)) = omega arith
  fetch_most scratch (Imm word) = omega arith
  fetch_most scratch (Addr base offset) = omega arith
  fetch_most scratch (Index base index shift) = omega arith
  fetch_most scratch (FrameSlot n) = omega arith

  pub put_most : (reg : ℕ) (arg : Arg) → length (put_result f reg arg) ≤ place_words arg
  unfolding put_result
  put_most reg (At (Spill n)) = store_most reg (above_sp f (spill_offset f n))
  put_most reg (At (Reg r)) = omega arith
  put_most reg (At (Tmp n)) = omega arith
  put_most reg (Imm word) = omega arith
  put_most reg (Addr base offset) = omega arith
  put_most reg (Index base index shift) = omega arith
  put_most reg (FrameSlot n) = omega arith

  pub below_most : (n : ℕ) (os : List Operand) (k scratch : ℕ) → length (fetch_below n f os k scratch) ≤ place_words (arg_at os k)
  below_most n os k scratch = let most = fetch_most scratch (arg_at os k) in
      elim (nat_lt k n) as (λ b. length (if b then fetch f scratch (arg_at os k) else []) ≤ place_words (arg_at os k)) [ true ↦ most | false ↦ omega arith ]

  pub bring_most : (width : Width) (reg : ℕ) (arg : Arg) → length (bring f width reg arg) ≤ 1 + arg_words arg
  unfolding bring
  bring_most width reg (At (Reg from)) = elim (nat_eq reg from.0) as (λ b. length (if b then [] else move_reg width reg from.0 ∷ []) ≤ 1) [
    | true ↦
        omega arith
    | false ↦ omega arith
  ]
  bring_most width reg (At (Spill n)) = let most = load_most reg (above_sp f (spill_offset f n)) in omega arith
  bring_most width reg (At (Tmp n)) = omega arith
  bring_most width reg (Imm word) = constant_most width reg word
  bring_most width reg (Addr base offset) = omega arith
  bring_most width reg (Index base index shift) = omega arith
  bring_most width reg (FrameSlot n) = omega arith

  abbrev pub operand_words : Operand → ℕ
  operand_words o = arg_words o.arg

  -- what is fetched, an instruction, and what puts its result
  compute_parts : (o : AirOp) (os : List Operand) → length (compute_code f o os)
      ≡ length (fetch_below (length os - 1) f os 0 15) + length (fetch_below (length os - 1) f os 1 16) + length
      (fetch_below (length os - 1) f os 2 17) + 1 + length (put_result f (result_reg (result_at os)) (result_at os))
  compute_parts o os =
      let n : ℕ = length os - 1 in
      let rd : ℕ = result_reg (result_at os) in
      let last : List Inst = computing o (width_at os 0) rd (source_at os 0 15) (source_at os 1 16) (source_at os 2 17) ∷ put_result f rd (result_at os) in
      let a = length-append (fetch_below n f os 0 15) (fetch_below n f os 1 16) in
      let b = length-append (fetch_below n f os 0 15 ++ fetch_below n f os 1 16) (fetch_below n f os 2 17) in
      let c = length-append ((fetch_below n f os 0 15 ++ fetch_below n f os 1 16) ++ fetch_below n f os 2 17) last in
      omega arith

  result_most : (os : List Operand) (j : ℕ) → j < length os → place_words (arg_at os j) ≤ sum_by operand_words os
  result_most os j lt =
      let none : Operand = record { role = Use; width = W64; arg = Imm 0 } in
      let more = sum_by_more_le operand_words os j none lt in
      let least = place_least (arg_at os j) in
      omega arith

  pub compute_most : (o : AirOp) (os : List Operand) → length (compute_code f o os) ≤ 1 + sum_by operand_words os
  compute_most o [] = let parts = compute_parts o [] in let put = put_most 17 (Imm 0) in omega arith
  compute_most o (a ∷ []) =
      let parts = compute_parts o (a ∷ []) in
      let put = put_most (result_reg a.arg) a.arg in
      let least = place_least a.arg in
      omega arith
  compute_most o (a ∷ b ∷ []) =
      let parts = compute_parts o (a ∷ b ∷ []) in
      let first = fetch_most 15 a.arg in
      let put = put_most (result_reg b.arg) b.arg in
      let least_a = place_least a.arg in
      let least_b = place_least b.arg in
      omega arith
  compute_most o (a ∷ b ∷ c ∷ []) =
      let parts = compute_parts o (a ∷ b ∷ c ∷ []) in
      let first = fetch_most 15 a.arg in
      let second = fetch_most 16 b.arg in
      let put = put_most (result_reg c.arg) c.arg in
      let least_a = place_least a.arg in
      let least_b = place_least b.arg in
      let least_c = place_least c.arg in
      omega arith
  compute_most o (a ∷ b ∷ c ∷ d ∷ os) =
      let all : List Operand = a ∷ b ∷ c ∷ d ∷ os in
      let parts = compute_parts o all in
      let n : ℕ = length all - 1 in
      let first = below_most n all 0 15 in
      let second = below_most n all 1 16 in
      let third = below_most n all 2 17 in
      let put = put_most (result_reg (result_at all)) (result_at all) in
      let least_a = place_least a.arg in
      let least_b = place_least b.arg in
      let least_c = place_least c.arg in
      let e : n ≡ suc (suc (suc (length os))) = omega arith in
      let last : place_words (result_at all) ≤ sum_by operand_words (d ∷ os) =
      subst (λ k. place_words (arg_at all k) ≤ sum_by operand_words (d ∷ os)) (sym e) (result_most (d ∷ os) (length os) (omega arith)) in
      let sum_a = sum_by-cons operand_words a (b ∷ c ∷ d ∷ os) in
      let sum_b = sum_by-cons operand_words b (c ∷ d ∷ os) in
      let sum_c = sum_by-cons operand_words c (d ∷ os) in
      omega arith
