use Rattle.std.proofs.Common.{◌≡◌, ℕ, ◌⊎◌, length, take}
use Rattle.std.specs.Prelude.{Contains}
use Rattle.air_colour.specs.Classes.{merged}
use Rattle.air_colour.specs.Progress.{class_in}
use Rattle.air_colour.proofs.classes.relabel_all.Given as goal

abbrev pub invariant-loop-u : goal.invariant-loop-u
invariant-loop-u l = record {
  long : length l.class ≡ length l.initial.class;
  those : (x : ℕ) → Contains (take l.u-index l.homes) x → class_in l.class x ≡ merged (class_in l.initial.class) l.a l.b x;
  either : (x : ℕ) → (class_in l.class x ≡ class_in l.initial.class x) ⊎ (class_in l.class x ≡ merged (class_in l.initial.class) l.a l.b x);
}
