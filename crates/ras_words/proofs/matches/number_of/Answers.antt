use Rattle.ras_words.proofs.NumberLemmas.{number-in-range, number-outside}
use Rattle.ras_words.proofs.matches.number_of.Goals as goal

pub returns-in-Ok : goal.returns-in-Ok
returns-in-Ok c =
    let read = c.in-Ok.ensures.value.0 in
    number-in-range c.args.least c.args.most c.args.default c.in-Ok.n c.args.text.now read.0.0 read.0.1 read.1 c.if-n-least.true c.if-n-most.true

pub returns-in_default-3 : goal.returns-in_default-3
returns-in_default-3 c =
    number-outside c.args.least c.args.most c.args.default c.args.text.now (λ h. c.in_default.ensures.value.0 (h.0, h.1))
