use Rattle.b3_sound.proofs.FromValid.{is_kept}
use Rattle.b3_sound.proofs.Law.{never_malformed, stays_inside}
use Rattle.b3_sound.proofs.Ready.{always_ready}
use Rattle.b3_sound.proofs.laws.valid_runs.Goals as goal

pub returns : goal.returns
returns c = record {
  never_malformed = λ p valid fit start answers n started. never_malformed p (is_kept p valid fit) start answers started n;
  stays_inside = λ p valid fit start answers n block st started comes. stays_inside p (is_kept p valid fit) start answers started n block st comes;
  always_ready = λ p valid fit start answers block before v st started runs. always_ready p (is_kept p valid fit) start answers started block before v st runs;
}
