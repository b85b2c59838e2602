use Rattle.std.proofs.Common.{◌≡◌, ◌∙◌, ◌+◌, ◌∷◌, [], List, sym, ap, ap₂, arith, length, map, drop, length-append, subst, IfSome, Result, Err}
use Rattle.serde_json.specs.View.{view}
use Rattle.serde_json.specs.declared.value.Value.{Value as Json}
use Rattle.ras_requests.specs.Within.{AreReservations}
use Rattle.ras_requests.specs.Requested.{reservation_at, reservations_from, stands_before, told}
use Rattle.ras_requests.specs.declared.requests.Reservation.{Reservation}
use Rattle.ras_requests.specs.declared.fault.RequestsFault.{RequestsFault}
use Rattle.ras_requests.proofs.LimitsLemmas.{on-ok, entries-go, entries-stop, reservations-push}
use Rattle.ras_requests.proofs.read.reservations_of.Goals as goal

pub returns-in-Err-clause-list : goal.returns-in-Err-clause-list
returns-in-Err-clause-list c =
    let i = c.loop-i.i in
    let at = ap₂ (λ (l : List Reservation) (v : Json). reservation_at c.args.format (i + 1) l (view v)) c.as_slice.ensures.items c.index-entries-i.is in
    entries-stop c.args.format i c.loop-i.list c.args.entries.now c.index-entries-i.result c.in-Err.fault _ (omega arith) c.loop-i.invariant.0
    (subst (λ (o : Result Reservation RequestsFault). IfSome (told c.in-Err.fault) (λ f. o ≡ Err f)) at c.in-Err.ensures.reservation)

pub loop-i-preserved : goal.loop-i-preserved
loop-i-preserved c =
    let i = c.loop-i.i in
    let inv = c.loop-i.invariant in
    let list = c.loop-i.list in
    let r = c.in-Ok-reservation_at.reservation in
    let entries = c.args.entries.now in
    let push = on-ok c.push.result c.if-is_err.ensures.value c.push.ensures.ok in
    let at = sym (ap₂ (λ (l : List Reservation) (v : Json). reservation_at c.args.format (i + 1) l (view v)) c.as_slice.ensures.items c.index-entries-i.is) ∙ c.in-Ok-reservation_at.ensures.reservation in
    let fresh = ap (λ (l : List Reservation). stands_before l r) (sym c.as_slice.ensures.items) ∙ c.in-Ok-reservation_at.ensures.fresh in
    let longer = ap length push ∙ length-append list (r ∷ []) in (
      ap (λ (l : List Reservation). reservations_from c.args.format (i + 1 + 1) l (map view (drop (i + 1) entries))) push ∙ entries-go c.args.format i list entries c.index-entries-i.result r _ (omega arith) inv.0 at,
      omega (arith, longer, inv.1),
      subst (λ (l : List Reservation). AreReservations l) (sym push) (reservations-push list r inv.2 c.in-Ok-reservation_at.ensures.rule fresh),
    )
