use Rattle.std.proofs.Common.{◌≡◌, ℕ, inl, List, length, get_or, take, arith, refl, sym, ◌∙◌, ap, subst}
use Rattle.std.specs.Prelude.{Contains}
use Rattle.std.proofs.Math.Seq.{take-length}
use Rattle.std.proofs.lemmas.List.Elements.{Contains-get_or}
use Rattle.air_colour.specs.Progress.{class_in}
use Rattle.air_colour.proofs.Members.{relabelled_either, relabelled_those}
use Rattle.air_colour.proofs.classes.relabel_all.Goals as goal

pub loop-u-init : goal.loop-u-init
loop-u-init c = record {
  long = refl;
  those = λ x there. absurd (let lt = there.1 in omega (arith, lt));
  either = λ x. inl refl;
}

pub relabel-requires : goal.relabel-requires
relabel-requires c =
    let lt = c.requires (get_or c.args.homes.now c.loop-u.u-index 0) (Contains-get_or c.args.homes.now c.loop-u.u-index 0 c.loop-u-test.true) in
    omega (arith, lt, c.loop-u.invariant.long)

pub loop-u-preserved : goal.loop-u-preserved
loop-u-preserved c =
    let u : ℕ = get_or c.args.homes.now c.loop-u.u-index 0 in
    record {
      long = c.relabel.ensures.long ∙ c.loop-u.invariant.long;
      those = relabelled_those (class_in c.args.class.now) (class_in c.loop-u.class) (class_in c.relabel.new.class) c.args.a c.args.b u
          c.loop-u.invariant.either c.relabel.ensures.here c.relabel.ensures.others c.args.homes.now c.loop-u.u-index c.loop-u-test.true refl
          c.loop-u.invariant.those;
      either = relabelled_either (class_in c.args.class.now) (class_in c.loop-u.class) (class_in c.relabel.new.class) c.args.a c.args.b u
          c.loop-u.invariant.either c.relabel.ensures.here c.relabel.ensures.others;
    }

pub returns-clause-those : goal.returns-clause-those
returns-clause-those c x there =
    let homes : List ℕ = c.args.homes.now in
    let end : c.loop-u.u-index ≡ length homes = omega (arith, c.loop-u-test.false, c.loop-u.auto.u-index-end) in
    let all : take c.loop-u.u-index homes ≡ homes = ap (λ (k : ℕ). take k homes) end ∙ take-length homes in
    c.loop-u.invariant.those x (subst (λ (l : List ℕ). Contains l x) (sym all) there)
