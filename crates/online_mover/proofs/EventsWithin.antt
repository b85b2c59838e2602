-- The events of a file are of servers that the region has.
use Rattle.std.proofs.Common.{◌≡◌, ℕ, ◌+◌, ◌<◌, ◌∙◌, Bool, true, false, cond, List, [], ◌∷◌, ◌++◌, length, sym, ap, refl, subst, arith, Option, Some, None, Result, Ok, Err}
use Rattle.std.specs.Prelude.{nat_lt, ◌&&◌}
use Rattle.std.specs.List.{list_all}
use Rattle.std.specs.Option.{option_map}
use Rattle.std.specs.Str.{bytes_eq}
use Rattle.std.proofs.lemmas.Bool.Decides.{nat_tests}
use Rattle.std.proofs.lemmas.List.{length-map}
use Rattle.std.proofs.lemmas.List.Quantifiers.{position-Some}
use Rattle.std.proofs.lemmas.List.Recursion.{and_push}
use Rattle.ras_table.specs.declared.rows.Cell.{Cell}
use Rattle.ras_table.specs.declared.rows.Cell.TheVariants as cell
use Rattle.ras_table.specs.declared.rows.RowFault.{RowFault}
use Rattle.ras_table.specs.Rows.{row_of, are_texts}
use Rattle.ras_table.specs.Records.{records_of}
use Rattle.ras_inventory.specs.declared.server.Server.{Server}
use Rattle.ras_inventory.specs.RegionRule.{server_names}
use Rattle.online_mover.specs.declared.stands.Event.{Event}
use Rattle.online_mover.specs.declared.stands.Event.TheVariants as event
use Rattle.online_mover.specs.declared.timed.Timed.{Timed}
use Rattle.online_mover.specs.declared.timed.Word.{Word}
use Rattle.online_mover.specs.declared.timed.Word.TheVariants as word
use Rattle.online_mover.specs.declared.fault.EventsFault.{EventsFault}
use Rattle.online_mover.specs.declared.fault.EventsFault.TheVariants.{At}
use Rattle.online_mover.specs.declared.fault.EventsWhy.TheVariants.{Head}
use Rattle.online_mover.specs.declared.fault.EventsWhy.{EventsWhy}
use Rattle.online_mover.specs.Events.{event_within}
use Rattle.online_mover.specs.EventRows.{kinds, heads, names_nothing, server_in, event_of, broken_rule, unless_broken, known, with_event, with_word, word_in, event_in, whole_in, timed_of}
use Rattle.ras_table.specs.Answers.{Gives}
use Rattle.std.specs.Prelude.{IfOk}
use Rattle.online_mover.specs.EventFiles.{told, numbered, timed_in, timed_at, and_then, events_from, events_in, events_of}
use Rattle.online_mover.proofs.Given.{none-some, some-same}
use Rattle.online_mover.proofs.Protection.{mapped}
use Rattle.std.specs.Prelude.{slice_get}

server-within : (names : List (List ℕ)) (c : Option Cell) (s : ℕ) → server_in names c ≡ Some s → nat_lt s (length names) ≡ true
server-within names None s h = absurd (none-some s h)
server-within names (Some (cell.Name name)) s h =
    let within : s < length names = (position-Some (bytes_eq name) names s [] h).0 in
    grind (arith, nat_tests, within)
server-within names (Some (cell.Whole n)) s h = absurd (none-some s h)
server-within names (Some (cell.Flag b)) s h = absurd (none-some s h)
server-within names (Some cell.Nothing) s h = absurd (none-some s h)

tick-within : (b : Bool) (n : ℕ) (e : Event) → ◌≡◌ {A = Option Event} (cond b (Some event.Tick) None) (Some e) → event_within n e ≡ true
tick-within true n e h = sym (ap (event_within n) (some-same event.Tick e h))
tick-within false n e h = absurd (none-some e h)

-- an event that names a server of the region
named-within : (names : List (List ℕ)) (c : Option Cell) (f : ℕ → Event) (e : Event) → ((s : ℕ) → event_within (length names) (f s) ≡ nat_lt s (length names))
    → option_map f (server_in names c) ≡ Some e → event_within (length names) e ≡ true
named-within names c f e same h =
    let m = mapped f (server_in names c) e h in
    sym (ap (event_within (length names)) m.1.1) ∙ same m.0 ∙ server-within names c m.0 m.1.0

event_of-within : (names : List (List ℕ)) (w : Word) (c : Option Cell) (e : Event) → event_of names w c ≡ Some e → event_within (length names) e ≡ true
event_of-within names word.Tick c e h = tick-within (names_nothing c) (length names) e h
event_of-within names word.Drained c e h = named-within names c event.Drained e (λ s. refl) h
event_of-within names word.Refused c e h = named-within names c event.Refused e (λ s. refl) h
event_of-within names word.Joined c e h = named-within names c event.Joined e (λ s. refl) h
event_of-within names word.JoinFailed c e h = named-within names c event.JoinFailed e (λ s. refl) h
event_of-within names word.Down c e h = named-within names c event.Down e (λ s. refl) h
event_of-within names word.Up c e h = named-within names c event.Up e (λ s. refl) h

err-ok : {T E : Type 0} (e : E) (x : T) → ◌≡◌ {A = Result T E} (Err e) (Ok x) → ⊥
err-ok e x h = cc

ok-same : {T E : Type 0} (x y : T) → ◌≡◌ {A = Result T E} (Ok x) (Ok y) → x ≡ y
ok-same x y h = cc

unless-within : (n : ℕ) (t timed : Timed) (o : Option EventsWhy) → event_within n t.event ≡ true → unless_broken t o ≡ Ok timed → event_within n timed.event ≡ true
unless-within n t timed None here h = sym (ap (λ (x : Timed). event_within n x.event) (ok-same {T = Timed} {E = EventsWhy} t timed h)) ∙ here
unless-within n t timed (Some w) here h = absurd (err-ok {T = Timed} {E = EventsWhy} w timed h)

known-within : (names : List (List ℕ)) (w : Word) (c : Option Cell) (o : Option Event) (e : Event) → event_of names w c ≡ o → known o ≡ Ok e → event_within (length names) e ≡ true
known-within names w c None e is h = absurd (err-ok {T = Event} {E = EventsWhy} _ e h)
known-within names w c (Some x) e is h = event_of-within names w c e (is ∙ ap Some (ok-same {T = Event} {E = EventsWhy} x e h))

with_word-within : (names : List (List ℕ)) (c : Option Cell) (o : Option Word) (e : Event) → with_word names c o ≡ Ok e → event_within (length names) e ≡ true
with_word-within names c None e h = absurd (err-ok {T = Event} {E = EventsWhy} _ e h)
with_word-within names c (Some w) e h = known-within names w c (event_of names w c) e refl h

-- the event of a row is of a server that the region has
pub event_in-within : (names : List (List ℕ)) (cells : List Cell) (e : Event) → event_in names cells ≡ Ok e → event_within (length names) e ≡ true
event_in-within names cells e h = with_word-within names (slice_get cells 2) (word_in (slice_get cells 1)) e h

with_event-within : (n : ℕ) (before : List Timed) (at : ℕ) (r : Result Event EventsWhy) (timed : Timed) → ((e : Event) → r ≡ Ok e → event_within n e ≡ true)
    → with_event before at r ≡ Ok timed → event_within n timed.event ≡ true
with_event-within n before at (Err w) timed k h = absurd (err-ok {T = Timed} {E = EventsWhy} w timed h)
with_event-within n before at (Ok e) timed k h = unless-within n (record { at = at; event = e }) timed (broken_rule before at) (k e refl) h

numbered-same : (number : ℕ) (r : Result Timed EventsWhy) (timed : Timed) → numbered number r ≡ Ok timed → r ≡ Ok timed
numbered-same number (Ok t) timed h = ap Ok (ok-same {T = Timed} {E = EventsFault} t timed h)
numbered-same number (Err w) timed h = absurd (err-ok {T = Timed} {E = EventsFault} _ timed h)

timed_in-within : (names : List (List ℕ)) (number : ℕ) (before : List Timed) (row : Result (List Cell) RowFault) (timed : Timed)
    → timed_in names number before row ≡ Ok timed → event_within (length names) timed.event ≡ true
timed_in-within names number before (Ok cells) timed h =
    with_event-within (length names) before (whole_in (slice_get cells 0)) (event_in names cells) timed (event_in-within names cells)
    (numbered-same number (timed_of names before cells) timed h)
timed_in-within names number before (Err f) timed h = absurd (err-ok {T = Timed} {E = EventsFault} _ timed h)

abbrev AreWithin : ℕ → List Timed → Type 0
AreWithin n events = list_all (λ (timed : Timed). event_within n timed.event) events ≡ true

push-within : (n : ℕ) (events : List Timed) (timed : Timed) → AreWithin n events → event_within n timed.event ≡ true → AreWithin n (events ++ timed ∷ [])
push-within n events timed all here =
    and_push (list_all (λ (t : Timed). event_within n t.event)) (λ (t : Timed). event_within n t.event) refl (λ _ _. refl) events timed
    ∙ ap (λ b. b && event_within n timed.event) all ∙ here

from-within : (names : List (List ℕ)) (number : ℕ) (before : List Timed) (records : List (List (List ℕ))) (events : List Timed)
    → AreWithin (length names) before → events_from names number before records ≡ Ok events → AreWithin (length names) events
from-within names number before [] events all h = subst (λ (xs : List Timed). AreWithin (length names) xs) (ok-same {T = List Timed} {E = EventsFault} before events h) all
from-within names number before (fields ∷ records) events all h =
    one (timed_at names number before fields) refl h (λ timed here k. from-within names (number + 1) (before ++ timed ∷ []) records events (push-within (length names) before timed all here) k)
  where
    one : (r : Result Timed EventsFault) → timed_at names number before fields ≡ r
        → and_then r (λ timed. events_from names (number + 1) (before ++ timed ∷ []) records) ≡ Ok events
        → ((timed : Timed) → event_within (length names) timed.event ≡ true → events_from names (number + 1) (before ++ timed ∷ []) records ≡ Ok events → AreWithin (length names) events)
        → AreWithin (length names) events
    one (Ok timed) is k more = more timed (timed_in-within names number before (row_of kinds fields) timed is) k
    one (Err f) is k more = absurd (err-ok {T = List Timed} {E = EventsFault} f events k)

in-within : (names : List (List ℕ)) (records : List (List (List ℕ))) (events : List Timed) → events_in names records ≡ Ok events → AreWithin (length names) events
in-within names [] events h = absurd (err-ok {T = List Timed} {E = EventsFault} _ events h)
in-within names (head ∷ records) events h = by (are_texts head heads) h
  where
    by : (b : Bool) → ◌≡◌ {A = Result (List Timed) EventsFault} (cond b (events_from names 2 [] records) (Err (At 1 Head))) (Ok events) → AreWithin (length names) events
    by true k = from-within names 2 [] records events refl k
    by false k = absurd (err-ok {T = List Timed} {E = EventsFault} _ events k)

pub read-within : (servers : List Server) (bytes : List ℕ) (events : List Timed) → events_of (server_names servers) bytes ≡ Ok events
    → list_all (λ (timed : Timed). event_within (length servers) timed.event) events ≡ true
read-within servers bytes events h =
    subst (λ (n : ℕ). AreWithin n events) (length-map servers (λ s. s.name)) (in-within (server_names servers) (records_of bytes) events h)

pub gives-within : (servers : List Server) (bytes : List ℕ) (r : Result (List Timed) EventsFault) → Gives (λ (events : List Timed). events) told r (events_of (server_names servers) bytes)
    → IfOk r (λ events. list_all (λ (timed : Timed). event_within (length servers) timed.event) events ≡ true)
gives-within servers bytes (Ok events) h = read-within servers bytes events h
gives-within servers bytes (Err f) h = tt
