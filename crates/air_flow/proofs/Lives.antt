-- What is live before and after an instruction, by its touches.
use Rattle.std.proofs.Common.{◌≡◌, ℕ, ◌+◌, ◌<◌, ◌⊎◌, inl, inr, Some, List, [], ◌∷◌, length, get_or, arith, refl, sym, ap, ◌∙◌, subst}
use Rattle.std.specs.Prelude.{◌↔◌, Contains, slice_get}
use Rattle.std.proofs.lemmas.List.{get_or_default}
use Rattle.std.proofs.lemmas.Option.{slice_get_within}
use Rattle.flow_live.specs.Graph.{Defines, EndsInUse, HasTouch, IsDefOf, IsPath, IsUseOf, LiveBefore, LiveOut, Place, Uses}
use Rattle.flow_live.specs.declared.touch.Touch.{Touch}
use Rattle.flow_live.specs.declared.touch.Touch.TheVariants as touch
use Rattle.air_ir.specs.Blocks.{block_of}
use Rattle.air_ir.specs.WellFormed.{StandsAt}
use Rattle.air_ir.specs.declared.operand.Home.{Home}
use Rattle.air_ir.specs.declared.procedure.AirBlock.{AirBlock}
use Rattle.air_ir.specs.declared.procedure.AirInst.{AirInst}
use Rattle.air_ir.specs.declared.procedure.AirProc.{AirProc}
use Rattle.air_flow.specs.Flow.{flow_of, inst_touches, name_of, touches_at}
use Rattle.air_flow.specs.Living.{HasName, IsDefinedBy, IsLive, IsLiveAfter, IsUsedBy, IsUsedLateBy, LivesOn}
use Rattle.air_flow.proofs.Names.{block_is, touches_are}

abbrev pub spot : ℕ → ℕ → Place
spot block place = record { block = block; place = place }

-- an element by its place, at another default
at_contains : (ts : List Touch) (t d : Touch) (k : ℕ) → k < length ts → get_or ts k d ≡ t → Contains ts t
at_contains ts t d k lt e = (k, lt, get_or_default ts k t d lt ∙ e)

contains_at : (ts : List Touch) (t d : Touch) → Contains ts t → (k : ℕ) × (k < length ts) × (get_or ts k d ≡ t)
contains_at ts t d c = (c.0, c.1, get_or_default ts c.0 d t c.1 ∙ c.2)

module _ (p : AirProc) (block place : ℕ) (i : AirInst) (stands : StandsAt p block place i) where
  pub there : place < length (block_of p block).insts
  there = rw (block_is p block stands.of stands.block_there) (slice_get_within stands.of.insts place i stands.inst_there)

  -- a touch of the instruction is one of its place
  to_place : (is : Touch → Type 0) (t : Touch) → is t → Contains (inst_touches p.tmps i) t → HasTouch (flow_of p) is (spot block place)
  to_place is t holds c =
      let here : Contains (touches_at p block place) t = rw (touches_are p block place i stands) c in
      let at = contains_at (touches_at p block place) t (touch.Use 0) here in
      (there, (at.0, at.1, subst is (sym at.2) holds))

  to_inst : (t : Touch) (k : ℕ) → k < length (touches_at p block place) → get_or (touches_at p block place) k (touch.Use 0) ≡ t
      → Contains (inst_touches p.tmps i) t
  to_inst t k lt e =
      subst (λ (ts : List Touch). Contains ts t) (touches_are p block place i stands) (at_contains (touches_at p block place) t (touch.Use 0) k lt e)

  use_of : (home : Home) (n : ℕ) → HasName p home n → Uses (flow_of p) n (spot block place) → IsUsedBy p i home ⊎ IsUsedLateBy p i home
  use_of home n has (lt, (k, lt', used)) =
      elim used [
        | inl e ↦ inl (n, has, to_inst (touch.Use n) k lt' e)
        | inr e ↦ inr (n, has, to_inst (touch.LateUse n) k lt' e)
      ]

  defined_of : (home : Home) (n : ℕ) → HasName p home n → Defines (flow_of p) n (spot block place) → IsDefinedBy p i home
  defined_of home n has (lt, (k, lt', e)) = (n, has, to_inst (touch.Def n) k lt' e)

  of_defined : (home : Home) (n : ℕ) → HasName p home n → IsDefinedBy p i home → Defines (flow_of p) n (spot block place)
  of_defined home n has (m, named, c) =
      let e : name_of p.tmps home ≡ Some m = named.1 in
      let f : name_of p.tmps home ≡ Some n = has.1 in
      let same : m ≡ n = cc in
      to_place (λ (t : Touch). IsDefOf t n) (touch.Def m) (ap touch.Def same) c

  live_by_use : (home : Home) → IsUsedBy p i home ⊎ IsUsedLateBy p i home → IsLive p (spot block place) home
  live_by_use home (inl (n, has, c)) =
      (n, has, record { path = []; is_path = tt; ends = to_place (λ (t : Touch). IsUseOf t n) (touch.Use n) (inl refl) c })
  live_by_use home (inr (n, has, c)) =
      (n, has, record { path = []; is_path = tt; ends = to_place (λ (t : Touch). IsUseOf t n) (touch.LateUse n) (inr refl) c })

  live_by_after : (home : Home) → IsLiveAfter p (spot block place) home → (IsDefinedBy p i home → ⊥) → IsLive p (spot block place) home
  live_by_after home (next, follows, (n, has, live)) none = (
    n,
    has,
    record {
      path = next ∷ live.path;
      is_path = (follows, live.is_path);
      ends = (λ d. none (defined_of home n has d), live.ends);
    },
  )

  touched : (home : Home) (n : ℕ) → HasName p home n → (path : List Place) → IsPath (flow_of p) (spot block place) path
      → EndsInUse (flow_of p) n (spot block place) path
      → (IsUsedBy p i home ⊎ IsUsedLateBy p i home) ⊎ (IsLiveAfter p (spot block place) home × (IsDefinedBy p i home → ⊥))
  touched home n has [] is_path ends = inl (use_of home n has ends)
  touched home n has (next ∷ rest) is_path ends =
      inr ((next, is_path.0, (n, has, record { path = rest; is_path = is_path.1; ends = ends.1 })), λ d. ends.0 (of_defined home n has d))

  pub live_by_touches : (home : Home) → IsLive p (spot block place) home
      ↔ ((IsUsedBy p i home ⊎ IsUsedLateBy p i home) ⊎ (IsLiveAfter p (spot block place) home × (IsDefinedBy p i home → ⊥)))
  live_by_touches home = (
    λ live. touched home live.0 live.1 live.2.path live.2.is_path live.2.ends,
    λ by. elim by [ inl used ↦ live_by_use home used | inr after ↦ live_by_after home after.0 after.1 ],
  )

module _ (p : AirProc) (block place : ℕ) (of : AirBlock) (home : Home) (is : slice_get p.blocks block ≡ Some of) where
  count : (flow_of p).places block ≡ length of.insts
  count = ap (λ (b : AirBlock). length b.insts) (block_is p block of is)

  inside : place + 1 < length of.insts → IsLiveAfter p (spot block place) home → IsLive p (spot block (place + 1)) home
  inside lt (next, inl (less, same_block, same_place), live) =
      subst (λ (b : ℕ). IsLive p (spot b (place + 1)) home) same_block (subst (λ (k : ℕ). IsLive p (spot next.block k) home) same_place live)
  inside lt (next, inr (last, leads, first), live) = absurd (omega (arith, lt, last, count))

  behind : place + 1 ≡ length of.insts → IsLiveAfter p (spot block place) home → (n : ℕ) × HasName p home n × LiveOut (flow_of p) n block
  behind last (next, inl (less, same_block, same_place), live) = absurd (omega (arith, less, last, count))
  behind last (next, inr (end, leads, first), (n, has, live)) =
      (n, has, (next.block, leads, subst (λ (k : ℕ). LiveBefore (flow_of p) n (spot next.block k)) first live))

  pub live_on : LivesOn p block place of home
  live_on = record {
    next = λ lt. (inside lt, λ live. (spot block (place + 1), inl (omega (arith, lt, count), refl, refl), live));
    last = λ last. (
      behind last,
      λ out. (spot out.2.0 0, inr (omega (arith, last, count), out.2.1, refl), (out.0, out.1, out.2.2)),
    );
  }
