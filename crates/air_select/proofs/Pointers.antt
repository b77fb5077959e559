-- How a sum fits as the pointer of an access.
use Rattle.std.proofs.Common.{◌≡◌, ℕ, inl, inr, Bool, true, false, ◌&&◌, Some, nat_eq, refl, sym, ap, ◌∙◌}
use Rattle.std.specs.Prelude.{if◌then◌else◌, slice_get, Contains}
use Rattle.std.proofs.lemmas.Bool.{eqb-true, and_parts}
use Rattle.b3_base.specs.declared.word.Width.{Width}
use Rattle.b3_ir.specs.Procedure.{Procedure, values_of}
use Rattle.b3_ir.specs.Types.{width_of}
use Rattle.b3_ir.specs.declared.opcode.Opcode.{Opcode}
use Rattle.b3_ir.specs.declared.opcode.Opcode.TheVariants as opcode
use Rattle.b3_ir.specs.declared.value.Value.{Value}
use Rattle.b3_meaning.specs.declared.role.Extent.TheVariants.{Byte, Half, Whole}
use Rattle.air_ir.specs.Forms.{IsAddress, is_offset}
use Rattle.air_ir.specs.Kinds.{extent_bytes}
use Rattle.air_ir.specs.declared.operand.Arg.TheVariants.{Addr, Index}
use Rattle.air_ir.specs.declared.operand.Home.{Home}
use Rattle.air_fold.specs.Foldable.{access_bytes, constant_fits, is_add, is_constant, is_zero, pointer_fits, pointers, reaches, sum_fits, value_fits, whole}
use Rattle.air_fold.specs.Values.{child, known, known_in, offset_in, width_at}
use Rattle.air_fold.specs.declared.known.Known.{Known}
use Rattle.air_select.specs.Selected.{Tables, folds, indexed_by, sum_address}
use Rattle.air_select.specs.Temporaries.{home}
use Rattle.air_select.proofs.Children.{fit_cases}
use Rattle.air_select.proofs.Setting.{IsSound}

-- child i of an access of an opcode is its pointer: a sum alone is folded there
pub record PointerAt (p : Procedure) (t : Tables) (v : Value) (o : Opcode) (i bytes : ℕ) : Type 0 where
  pub is_word : Bool
  pub never : (width : Width) (word : ℕ) → constant_fits o i width word ≡ false
  pub no_sum : sum_fits t.index (pointers p) o i v.id ≡ false
  pub fits : (k : Known) → value_fits t.index (pointers p) o i v.id k ≡ pointer_fits t.index bytes is_word (offset_in v.body) k

module _ (p : Procedure) (t : Tables) (v : Value) (b : ℕ) (is : known t.index v.id ≡ known_in b v) where
  as_known : (o : Opcode) (w : Bool) (k : Known)
      → pointer_fits t.index (access_bytes t.index o (known t.index v.id)) w (known t.index v.id).offset k
      ≡ pointer_fits t.index (access_bytes t.index o (known_in b v)) w (offset_in v.body) k
  as_known o w k = ap (λ (u : Known). pointer_fits t.index (access_bytes t.index o u) w u.offset k) is

  pub load8z_at : PointerAt p t v opcode.Load8Z 0 (extent_bytes Byte (width_of v.ty))
  load8z_at = record { is_word = false; never = λ w n. refl; no_sum = refl; fits = λ k. as_known opcode.Load8Z false k }

  pub load8s_at : PointerAt p t v opcode.Load8S 0 (extent_bytes Byte (width_of v.ty))
  load8s_at = record { is_word = false; never = λ w n. refl; no_sum = refl; fits = λ k. as_known opcode.Load8S false k }

  pub load16z_at : PointerAt p t v opcode.Load16Z 0 (extent_bytes Half (width_of v.ty))
  load16z_at = record { is_word = false; never = λ w n. refl; no_sum = refl; fits = λ k. as_known opcode.Load16Z false k }

  pub load16s_at : PointerAt p t v opcode.Load16S 0 (extent_bytes Half (width_of v.ty))
  load16s_at = record { is_word = false; never = λ w n. refl; no_sum = refl; fits = λ k. as_known opcode.Load16S false k }

  pub load_at : PointerAt p t v opcode.Load 0 (extent_bytes Whole (width_of v.ty))
  load_at = record { is_word = true; never = λ w n. refl; no_sum = refl; fits = λ k. as_known opcode.Load true k }

  pub store8_at : PointerAt p t v opcode.Store8 1 (extent_bytes Byte (width_at t.index (child v.children 0)))
  store8_at = record { is_word = false; never = λ w n. refl; no_sum = refl; fits = λ k. as_known opcode.Store8 false k }

  pub store16_at : PointerAt p t v opcode.Store16 1 (extent_bytes Half (width_at t.index (child v.children 0)))
  store16_at = record { is_word = false; never = λ w n. refl; no_sum = refl; fits = λ k. as_known opcode.Store16 false k }

  pub store_at : PointerAt p t v opcode.Store 1 (extent_bytes Whole (width_at t.index (child v.children 0)))
  store_at = record { is_word = true; never = λ w n. refl; no_sum = refl; fits = λ k. as_known opcode.Store true k }

module _ (p : Procedure) (t : Tables) (sound : IsSound p t) (b : ℕ) (v : Value) (here : Contains (values_of p b) v)
    (o : Opcode) (eo : v.kind.opcode ≡ o) (i bytes : ℕ) (at : PointerAt p t v o i bytes) (pointer : ℕ) (there : slice_get v.children i ≡ Some pointer)
    (gone : folds t pointer ≡ true) where
  -- a folded pointer is a sum of this block
  pub record IsSum : Type 0 where
    pub block : b ≡ (known t.index pointer).block
    pub fits : pointer_fits t.index bytes at.is_word (offset_in v.body) (known t.index pointer) ≡ true

  pub is_sum : IsSum
  is_sum =
      let k = known t.index pointer in
      elim (fit_cases t (pointers p) b v.kind.opcode i v.id pointer (sound.uses_fit b i pointer v here there gone)) [
        | inl constant ↦ absurd (let bad : true ≡ false = sym constant.fits ∙ ap (λ (q : Opcode). constant_fits q i (width_at t.index pointer) k.word) eo
            ∙ at.never (width_at t.index pointer) k.word in cc)
        | inr (inl in_sum) ↦
            absurd (let bad : true ≡ false = sym in_sum.fits ∙ ap (λ (q : Opcode). sum_fits t.index (pointers p) q i v.id) eo ∙ at.no_sum in cc)
        | inr (inr value) ↦ record {
          block = value.block;
          fits = sym (at.fits k) ∙ sym (ap (λ (q : Opcode). value_fits t.index (pointers p) q i v.id k) eo) ∙ value.fits;
        }
      ]

  -- its address is one of the access
  pub sum_is_address : IsAddress bytes (sum_address t v (known t.index pointer))
  sum_is_address =
      let k = known t.index pointer in
      let second = known t.index k.second in
      let parts = and_parts (is_add k.opcode) (reaches bytes at.is_word (offset_in v.body) second) is_sum.fits in
      by second (is_constant second.opcode) parts.1
    where
      index_by : (base : Home) (id : ℕ) (k : Known) → bytes ≡ 8 → (f : Bool)
          → IsAddress bytes (if f then Index base (home t.index k.first) 3 else Index base (home t.index id) 0)
      index_by base id k eight true = (eight, inr refl)
      index_by base id k eight false = (eight, inl refl)

      by : (second : Known) (c : Bool)
          → (if c then is_offset bytes (whole second.word (offset_in v.body)) else (at.is_word && (nat_eq bytes 8 && is_zero (offset_in v.body)))) ≡ true
          → IsAddress bytes (if c then Addr (home t.index (known t.index pointer).first) (whole second.word (offset_in v.body))
          else indexed_by t (home t.index (known t.index pointer).first) (known t.index pointer).second second)
      by second true fits = fits
      by second false fits =
          let inner = and_parts at.is_word (nat_eq bytes 8 && is_zero (offset_in v.body)) fits in
          let eight = and_parts (nat_eq bytes 8) (is_zero (offset_in v.body)) inner.1 in
          index_by (home t.index (known t.index pointer).first) (known t.index pointer).second second (eqb-true bytes 8 eight.0)
          (folds t (known t.index pointer).second)
