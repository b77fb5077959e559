-- The words of loads and stores, and of addresses in the frame.
use Rattle.std.proofs.Common.{◌≡◌, ℕ, ◌+◌, ◌%◌, ◌≤◌, true, false, List, [], ◌∷◌, ◌++◌, length, sym, subst, arith, length-append}
use Rattle.std.specs.Prelude.{nat_eq, nat_le, if◌then◌else◌}
use Rattle.std.specs.List.{sum_by}
use Rattle.b3_base.specs.declared.word.Width.TheVariants.{W64}
use Rattle.a64_inst.specs.declared.inst.Inst.{Inst}
use Rattle.a64_inst.specs.declared.inst.Inst.TheVariants.{AddSubImm}
use Rattle.air_ir.specs.Weight.{arg_words}
use Rattle.air_ir.specs.declared.frame.Frame.{Frame}
use Rattle.air_ir.specs.declared.op.AirOp.{AirOp}
use Rattle.air_ir.specs.declared.operand.Arg.{Arg}
use Rattle.air_ir.specs.declared.operand.Arg.TheVariants.{At, Imm, Addr, Index, FrameSlot}
use Rattle.air_ir.specs.declared.operand.Operand.{Operand}
use Rattle.a64_code.specs.Accesses.{access_kind, below_x29, upper}
use Rattle.a64_emit.specs.Code.{access_inst, arg_at, fetch, fetch_address, frame_address, load_code, put_result, result_reg, slot_offset, source_of, store_code}
use Rattle.a64_code.specs.Computing.{reg_of}
use Rattle.a64_emit.proofs.Sizes.{fetch_most, operand_words, place_least, put_most}
use Rattle.a64_emit.proofs.Weights.{of_one, of_two}

module _ (f : Frame) where
  address_most : (arg : Arg) → length (fetch_address f arg) ≤ arg_words arg
  unfolding fetch_address
  address_most (Addr base offset) =
      let most = fetch_most f 15 (At base) in
      let least = place_least (At base) in
      omega arith
  address_most (Index base index shift) =
      let first = fetch_most f 15 (At base) in
      let second = fetch_most f 16 (At index) in
      let least_base = place_least (At base) in
      let least_index = place_least (At index) in
      let both = length-append (fetch f 15 (At base)) (fetch f 16 (At index)) in
      omega arith
  address_most (At home) = omega arith
  address_most (Imm word) = omega arith
  address_most (FrameSlot n) = omega arith

  loaded_most : (inst : Inst) (address to : Arg)
      → length (fetch_address f address ++ inst ∷ put_result f (result_reg to) to) ≤ 1 + arg_words address + arg_words to
  loaded_most inst address to =
      let first = address_most address in
      let put = put_most f (result_reg to) to in
      let least = place_least to in
      let both = length-append (fetch_address f address) (inst ∷ put_result f (result_reg to) to) in
      omega arith

  two_of : (n a d : ℕ) → n ≤ 1 + a + d → n ≤ 1 + (0 + a + d)
  two_of n a d le = omega arith

  pub load_code_most : (o : AirOp) (os : List Operand) → length os ≡ 2 → length (load_code f o os) ≤ 1 + sum_by (operand_words f) os
  load_code_most o os count =
      let shape = of_two os count in
      let a : Operand = shape.0 in
      let d : Operand = shape.1 in
      subst (λ xs. length (load_code f o xs) ≤ 1 + sum_by (operand_words f) xs) (sym shape.2)
      (two_of _ (arg_words a.arg) (arg_words d.arg) (loaded_most (access_inst (access_kind o a.width) (result_reg d.arg) a.arg) a.arg d.arg))

  stored_most : (inst : Inst) (word address : Arg) → length (fetch_address f address ++ fetch f 17 word ++ inst ∷ []) ≤ 1 + arg_words word + arg_words address
  stored_most inst word address =
      let first = address_most address in
      let second = fetch_most f 17 word in
      let least = place_least word in
      let both = length-append (fetch_address f address) (fetch f 17 word) in
      let all = length-append (fetch_address f address ++ fetch f 17 word) (inst ∷ []) in
      omega arith

  pub store_code_most : (o : AirOp) (os : List Operand) → length os ≡ 2 → length (store_code f o os) ≤ 1 + sum_by (operand_words f) os
  store_code_most o os count =
      let shape = of_two os count in
      let a : Operand = shape.0 in
      let b : Operand = shape.1 in
      subst (λ xs. length (store_code f o xs) ≤ 1 + sum_by (operand_words f) xs) (sym shape.2)
      (two_of _ (arg_words a.arg) (arg_words b.arg) (stored_most (access_inst (access_kind o a.width) (reg_of (source_of 17 a.arg)) b.arg) a.arg b.arg))

  -- ---- addresses in the frame

  x29_most : (reg bytes : ℕ) → length (below_x29 reg bytes) ≤ 2
  unfolding below_x29
  x29_most reg bytes =
      elim (nat_le bytes 4095) as (λ b. length (if b then AddSubImm W64 true false reg 29 bytes false ∷ [] else
      AddSubImm W64 true false reg 29 (upper bytes) true
      ∷ (if nat_eq (bytes % 4096) 0 then [] else AddSubImm W64 true false reg reg (bytes % 4096) false ∷ [])) ≤ 2) [
        | true ↦ omega arith
        | false ↦ elim (nat_eq (bytes % 4096) 0) as (λ b. length (AddSubImm W64 true false reg 29 (upper bytes) true
            ∷ (if b then [] else AddSubImm W64 true false reg reg (bytes % 4096) false ∷ [])) ≤ 2) [ true ↦ omega arith | false ↦ omega arith ]
      ]

  pointer_one : (reg : ℕ) → length (below_x29 reg 0) ≤ 1
  unfolding below_x29
  pointer_one reg = omega arith

  address_words : (bytes n : ℕ) (to : Arg) → length (below_x29 (result_reg to) bytes) ≤ n → length (frame_address f bytes to) ≤ n + arg_words to
  address_words bytes n to le =
      let put = put_most f (result_reg to) to in
      let least = place_least to in
      let both = length-append (below_x29 (result_reg to) bytes) (put_result f (result_reg to) to) in
      omega arith

  slot_of : (n a d : ℕ) → n ≤ 2 + d → n ≤ 2 + (0 + a + d)
  slot_of n a d le = omega arith

  pub slot_most : (os : List Operand) → length os ≡ 2 → length (frame_address f (slot_offset f (arg_at os 0)) (arg_at os 1)) ≤ 2 + sum_by (operand_words f) os
  slot_most os count =
      let shape = of_two os count in
      let a : Operand = shape.0 in
      let d : Operand = shape.1 in
      subst (λ xs. length (frame_address f (slot_offset f (arg_at xs 0)) (arg_at xs 1)) ≤ 2 + sum_by (operand_words f) xs) (sym shape.2)
      (slot_of _ (arg_words a.arg) (arg_words d.arg) (address_words (slot_offset f a.arg) 2 d.arg (x29_most (result_reg d.arg) (slot_offset f a.arg))))

  pointer_of : (n d : ℕ) → n ≤ 1 + d → n ≤ 1 + (0 + d)
  pointer_of n d le = omega arith

  pub pointer_most : (os : List Operand) → length os ≡ 1 → length (frame_address f 0 (arg_at os 0)) ≤ 1 + sum_by (operand_words f) os
  pointer_most os count =
      let shape = of_one os count in
      let d : Operand = shape.0 in
      subst (λ xs. length (frame_address f 0 (arg_at xs 0)) ≤ 1 + sum_by (operand_words f) xs) (sym shape.1)
      (pointer_of _ (arg_words d.arg) (address_words 0 1 d.arg (pointer_one (result_reg d.arg))))
