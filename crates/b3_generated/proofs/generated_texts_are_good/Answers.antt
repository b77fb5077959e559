use Rattle.b3_generated.proofs.Good.{good_text}
use Rattle.b3_generated.proofs.generated_texts_are_good.Goals as goal

pub returns : goal.returns
returns c = λ n. good_text n c.texts_are_read_again.ensures.text
