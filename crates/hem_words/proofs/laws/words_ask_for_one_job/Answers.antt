use Rattle.hem_words.proofs.Once.{asks_once}
use Rattle.hem_words.proofs.Examples.{taken_words}
use Rattle.hem_words.proofs.laws.words_ask_for_one_job.Goals as goal

pub returns : goal.returns
returns c = let _examples = taken_words in record { once = asks_once }
