use Rattle.office_words.proofs.NumberLemmas.{got_number}
use Rattle.office_words.proofs.given.u32_of.Goals as goal

pub returns : goal.returns
returns c = got_number 32 c.args.given.now c.args.id.now c.get_one.result c.get_one.ensures.none c.get_one.ensures.value
