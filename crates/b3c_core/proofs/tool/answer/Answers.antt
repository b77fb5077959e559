use Rattle.std.proofs.Common.{sym, subst}
use Rattle.b3c_core.specs.declared.command.Command.{Command}
use Rattle.b3c_core.specs.Tool.{output_of}
use Rattle.b3c_core.proofs.tool.answer.Goals as goal

pub returns-in-Ok-clause-output : goal.returns-in-Ok-clause-output
returns-in-Ok-clause-output c =
    subst (λ (command : Command). output_of command c.args.bytes.now c.args.trial.now c.in-Ok.file) (sym c.in-Compile.is) c.in-Ok.ensures.object

pub returns-in-Ok-print-clause-output : goal.returns-in-Ok-print-clause-output
returns-in-Ok-print-clause-output c =
    subst (λ (command : Command). output_of command c.args.bytes.now c.args.trial.now c.in-Ok-print.text) (sym c.in-Print.is) c.in-Ok-print.ensures.text

pub returns-in-Ok-run_file-clause-output : goal.returns-in-Ok-run_file-clause-output
returns-in-Ok-run_file-clause-output c =
    subst (λ (command : Command). output_of command c.args.bytes.now c.args.trial.now c.in-Ok-run_file.shown) (sym c.in-Run.is) c.in-Ok-run_file.ensures.run

pub returns-in-Ok-generate_object-clause-output : goal.returns-in-Ok-generate_object-clause-output
returns-in-Ok-generate_object-clause-output c =
    subst (λ (command : Command). output_of command c.args.bytes.now c.args.trial.now c.in-Ok-generate_object.summary) (sym c.in-Gen.is) c.in-Ok-generate_object.ensures.summary
