use Rattle.std.proofs.Common.{◌≡◌, [], true, false, refl, sym, subst, ◌∙◌, arith, rules}
use Rattle.b3c_core.specs.Tool.{Call, HasReadTrial, reads_input, takes_trial}
use Rattle.b3_io.specs.declared.transfer.ReadAll.TheVariants.{Fault}
use Rattle.b3c_core.proofs.Endings.{ended_after, has_input, leaves_read, leaves_unread, no_input, no_trial_either, read_first, where_read}
use Rattle.b3c_core.proofs.tool.run_words.Goals as goal

pub returns-then-not-takes_trial-clause-ended : goal.returns-then-not-takes_trial-clause-ended
returns-then-not-takes_trial-clause-ended g c =
    let call : Call = record {
      words = c.args.words.now;
      left = g.S.Source.left c.args.input.now;
      left' = g.S.Source.left c.read_all.new.source;
      input_faults = g.S.Source.faults c.args.input.now;
      input_faults' = g.S.Source.faults c.read_all.new.source;
      trial_left = g.T.Source.left c.args.trial.now;
      trial_left' = g.T.Source.left c.args.trial.now;
      trial_faults = g.T.Source.faults c.args.trial.now;
      trial_faults' = g.T.Source.faults c.args.trial.now;
      held = g.K.Sink.held c.args.out.now;
      held' = g.K.Sink.held c.answer_to-then-not-takes_trial.new.out;
      output_faults = g.K.Sink.faults c.args.out.now;
      output_faults' = g.K.Sink.faults c.answer_to-then-not-takes_trial.new.out;
    } in
    let flag : takes_trial c.in-Some.command ≡ false = search rules in
    let reads : reads_input c.in-Some.command ≡ true = search rules in
    ended_after call c.answer_to-then-not-takes_trial.result c.in-Some.command c.in-Ok.bytes [] (sym c.command_of.ensures ∙ c.in-Some.is)
    (has_input call c.in-Some.command c.in-Ok.bytes reads (record { all = c.in-Ok.ensures.all; end = c.in-Ok.ensures.end }) (omega (arith, c.in-Ok.ensures.bound, c.limit.ensures))
    (where_read _ c.read_all.result c.in-Ok.bytes Fault c.in-Ok.is c.read_all.ensures.steady))
    (subst (λ takes. HasReadTrial takes call []) (sym flag) refl)
    (c.answer_to-then-not-takes_trial.ensures.answered call refl refl refl refl)

pub returns-in-Ok-read_all-clause-ended : goal.returns-in-Ok-read_all-clause-ended
returns-in-Ok-read_all-clause-ended g c =
    let call : Call = record {
      words = c.args.words.now;
      left = g.S.Source.left c.args.input.now;
      left' = g.S.Source.left c.read_all.new.source;
      input_faults = g.S.Source.faults c.args.input.now;
      input_faults' = g.S.Source.faults c.read_all.new.source;
      trial_left = g.T.Source.left c.args.trial.now;
      trial_left' = g.T.Source.left c.read_all-2.new.source;
      trial_faults = g.T.Source.faults c.args.trial.now;
      trial_faults' = g.T.Source.faults c.read_all-2.new.source;
      held = g.K.Sink.held c.args.out.now;
      held' = g.K.Sink.held c.answer_to-in-Ok-read_all.new.out;
      output_faults = g.K.Sink.faults c.args.out.now;
      output_faults' = g.K.Sink.faults c.answer_to-in-Ok-read_all.new.out;
    } in
    let flag : takes_trial c.in-Some.command ≡ true = search rules in
    let reads : reads_input c.in-Some.command ≡ true = search rules in
    ended_after call c.answer_to-in-Ok-read_all.result c.in-Some.command c.in-Ok.bytes c.as_slice.result.now (sym c.command_of.ensures ∙ c.in-Some.is)
    (has_input call c.in-Some.command c.in-Ok.bytes reads (record { all = c.in-Ok.ensures.all; end = c.in-Ok.ensures.end }) (omega (arith, c.in-Ok.ensures.bound, c.limit.ensures))
    (where_read _ c.read_all.result c.in-Ok.bytes Fault c.in-Ok.is c.read_all.ensures.steady))
    (subst (λ takes. HasReadTrial takes call c.as_slice.result.now) (sym flag)
    (subst (HasReadTrial true call) (sym c.as_slice.ensures) (
      record { all = c.in-Ok-read_all.ensures.all; end = c.in-Ok-read_all.ensures.end },
      c.in-Ok-read_all.ensures.bound,
      where_read _ c.read_all-2.result c.in-Ok-read_all.tried Fault c.in-Ok-read_all.is c.read_all-2.ensures.steady,
    )))
    (c.answer_to-in-Ok-read_all.ensures.answered call refl refl refl refl)

pub returns-then-not-reads_input-clause-ended : goal.returns-then-not-reads_input-clause-ended
returns-then-not-reads_input-clause-ended g c =
    let call : Call = record {
      words = c.args.words.now;
      left = g.S.Source.left c.args.input.now;
      left' = g.S.Source.left c.args.input.now;
      input_faults = g.S.Source.faults c.args.input.now;
      input_faults' = g.S.Source.faults c.args.input.now;
      trial_left = g.T.Source.left c.args.trial.now;
      trial_left' = g.T.Source.left c.args.trial.now;
      trial_faults = g.T.Source.faults c.args.trial.now;
      trial_faults' = g.T.Source.faults c.args.trial.now;
      held = g.K.Sink.held c.args.out.now;
      held' = g.K.Sink.held c.answer_to-then-not-reads_input.new.out;
      output_faults = g.K.Sink.faults c.args.out.now;
      output_faults' = g.K.Sink.faults c.answer_to-then-not-reads_input.new.out;
    } in
    let reads : reads_input c.in-Some.command ≡ false = search rules in
    ended_after call c.answer_to-then-not-reads_input.result c.in-Some.command c.new.result [] (sym c.command_of.ensures ∙ c.in-Some.is)
    (no_input call c.in-Some.command c.new.result reads c.new.ensures) (no_trial_either call c.in-Some.command reads)
    (c.answer_to-then-not-reads_input.ensures.answered call refl refl refl refl)

pub returns-then-not-takes_trial-clause-order : goal.returns-then-not-takes_trial-clause-order
returns-then-not-takes_trial-clause-order g c = leaves_unread _ _ c.answer_to-then-not-takes_trial.result refl

pub returns-then-not-reads_input-clause-order : goal.returns-then-not-reads_input-clause-order
returns-then-not-reads_input-clause-order g c = leaves_unread _ _ c.answer_to-then-not-reads_input.result refl

pub returns-in-Ok-read_all-clause-order : goal.returns-in-Ok-read_all-clause-order
returns-in-Ok-read_all-clause-order g c =
    let reads : reads_input c.in-Some.command ≡ true = search rules in
    leaves_read _ _ c.answer_to-in-Ok-read_all.result c.answer_to-in-Ok-read_all.ensures.kinds
    (read_first _ c.in-Some.command c.in-Ok.bytes (sym c.command_of.ensures ∙ c.in-Some.is)
    (has_input _ c.in-Some.command c.in-Ok.bytes reads (record { all = c.in-Ok.ensures.all; end = c.in-Ok.ensures.end }) (omega (arith, c.in-Ok.ensures.bound, c.limit.ensures))
    (where_read _ c.read_all.result c.in-Ok.bytes Fault c.in-Ok.is c.read_all.ensures.steady)))
