use Rattle.std.proofs.Common.{rules}
use Rattle.text.proofs.Digits.{places-are}
use Rattle.text.proofs.numbers.places.Goals as goal

pub returns : goal.returns
returns c = places-are c.args.n c.max.result c.ilog10.result (search rules) c.ilog10.ensures.power_le c.ilog10.ensures.next_power_gt
