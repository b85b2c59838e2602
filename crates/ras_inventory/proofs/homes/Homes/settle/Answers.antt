use Rattle.std.proofs.Common.{◌≡◌, ◌∙◌, is_some, false, rules}
use Rattle.ras_inventory.specs.HomeWords.{home_of}
use Rattle.ras_inventory.proofs.HomesLemmas.{home-settled}
use Rattle.ras_inventory.proofs.homes.Homes.settle.Goals as goal

pub returns-in-Ok : goal.returns-in-Ok
returns-in-Ok c =
    let fresh : is_some (home_of c.args.self.now c.args.name.now) ≡ false = search (rules, c.find.ensures, c.bytes.ensures.bytes, c.if-is_some.false) in
    rw (← c.self.view_is) (home-settled c.in_ok-key.key c.args.name.now c.args.home.now c.in_ok-copy.copy c.self.inside.of.entries c.insert.new.self.entries
    (c.in_ok-key.ensures.items ∙ c.bytes-2.ensures.bytes) c.in_ok-copy.ensures (rw (← c.self.view_is) at fresh) c.in-Ok.ensures.entries)
