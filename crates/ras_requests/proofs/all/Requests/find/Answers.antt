use Rattle.std.proofs.Common.{◌∙◌, sym, ap, position}
use Rattle.std.specs.Str.{bytes_eq}
use Rattle.ras_table.proofs.NamesLemmas.{number_of-map}
use Rattle.ras_requests.specs.declared.requests.Reservation.{Reservation}
use Rattle.ras_requests.proofs.all.Requests.find.Goals as goal

pub returns-in-Some : goal.returns-in-Some
returns-in-Some c =
    c.in-Some.ensures ∙ ap (position (λ (r : Reservation). bytes_eq c.args.name.now r.name)) c.as_slice.ensures.items
    ∙ sym (number_of-map (λ (r : Reservation). r.name) c.args.name.now c.args.self.now.list)

pub returns-in-None : goal.returns-in-None
returns-in-None c =
    c.in-None.ensures ∙ ap (position (λ (r : Reservation). bytes_eq c.args.name.now r.name)) c.as_slice.ensures.items
    ∙ sym (number_of-map (λ (r : Reservation). r.name) c.args.name.now c.args.self.now.list)
