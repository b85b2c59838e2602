-- After a command no server up to its own has a lawful one, so that the search for the next goes on behind it.
use Rattle.std.proofs.Common.{◌≡◌, ℕ, suc, zero, ◌+◌, ◌<◌, ◌≤◌, ◌≢◌, ◌⊎◌, inl, inr, Bool, true, false, cond, List, [], ◌∷◌, length, set, map, arith, ap, sym, ◌∙◌, refl, subst, Some, None}
use Rattle.std.specs.Prelude.{Option, not, ◌&&◌, nat_lt}
use Rattle.std.specs.List.{range_with_len}
use Rattle.std.specs.Option.{option_or}
use Rattle.std.proofs.lemmas.Bool.Decides.{nat_tests}
use Rattle.std.proofs.lemmas.Bool.{cases_eq}
use Rattle.std.proofs.lemmas.List.{get_or-set_same, get_or-set_other, set_comm}
use Rattle.plan_model.specs.declared.cases.Holder.{Holder}
use Rattle.plan_model.specs.declared.cases.Holder.TheVariants.{Held, Gone, Free as Nobody}
use Rattle.plan_model.specs.Units.{is_for}
use Rattle.online_mover.specs.declared.stands.Stand.{Stand}
use Rattle.online_mover.specs.declared.stands.Stand.TheVariants.{Free, Joining, Bound, Draining}
use Rattle.online_mover.specs.declared.stands.Server.{Server}
use Rattle.online_mover.specs.declared.stands.Command.{Command}
use Rattle.online_mover.specs.declared.stands.Command.TheVariants.{Drain, Bind}
use Rattle.online_mover.specs.States.{State, server_of, with_server, with_stand, no_server, bound_for, counts_for, counting, is_protected, stand_moves, moves, in_flight}
use Rattle.online_mover.specs.Commands.{command_at, command_of, first_some, least_command, after_command, drained_stand, is_target, is_protected_without, spares}
use Rattle.online_mover.specs.Changes.{commanded, NoneBelow}
use Rattle.online_mover.proofs.Covers.{Covers, keeps-more, covers-same}
use Rattle.online_mover.proofs.Given.{IsGiven, IsBind, IsDrain, given-of, none-some, first-more}
use Rattle.online_mover.proofs.Flight.{flight-more}

false-true : false ≡ true → ⊥
false-true h = cc

-- ---- a server that no longer counts protects nothing

covers-unset : (r : ℕ) (servers : List Server) (s : ℕ) (new : Server) → counts_for new ≡ None → Covers r (map counts_for (set servers s new)) (map counts_for servers)
covers-unset r [] s new h = tt
covers-unset r (x ∷ servers) zero new h = (λ k. absurd (false-true (sym (ap (is_for r) h) ∙ k)), covers-same r (map counts_for servers))
covers-unset r (x ∷ servers) (suc s) new h = (λ k. k, covers-unset r servers s new h)

protected-with : (state : State) (s r : ℕ) (new : Server) → counts_for new ≡ None → is_protected (with_server state s new) r ≡ true → is_protected state r ≡ true
protected-with state s r new h k = keeps-more state.case (counting (with_server state s new)) (counting state) r (covers-unset r state.servers s new h) k

-- two servers changed, in either order
swapped : (state : State) (s t : ℕ) (new : Server) (stand : Stand) → s ≢ t
    → with_stand (with_server state s new) t stand ≡ with_server (with_stand state t stand) s new
swapped state s t new stand apart =
    let other : t ≢ s = λ e. apart (sym e) in
    let read : server_of (with_server state s new) t ≡ server_of state t = get_or-set_other state.servers s t new no_server other in
    let order : set (set state.servers s new) t (record (server_of state t) { stand = stand }) ≡ set (set state.servers t (record (server_of state t) { stand = stand })) s new =
    set_comm state.servers s t new (record (server_of state t) { stand = stand }) apart in
    ap (λ (server : Server). with_server (with_server state s new) t (record server { stand = stand })) read
    ∙ ap (λ (servers : List Server). let u : State = record { case = state.case; at_once = state.at_once; servers = servers } in u) order

without-back : (state : State) (s t : ℕ) (new : Server) (q : Holder) (r : ℕ) → s ≢ t → counts_for new ≡ None
    → is_protected_without (with_server state s new) t q r ≡ true → is_protected_without state t q r ≡ true
without-back state s t new q r apart h k =
    protected-with (with_stand state t (Draining q)) s r new h
    (sym (ap (λ (u : State). is_protected u r) (swapped state s t new (Draining q) apart)) ∙ k)

spares-back : (state : State) (s t : ℕ) (new : Server) (q : Holder) → s ≢ t → counts_for new ≡ None
    → spares (with_server state s new) t q ≡ true → spares state t q ≡ true
spares-back state s t new (Held r) apart h k = without-back state s t new (Held r) r apart h k
spares-back state s t new Gone apart h k = refl
spares-back state s t new Nobody apart h k = refl

-- ---- what is lawful then was lawful before

given-back : (state : State) (s t : ℕ) (new : Server) (command : Command) → s ≢ t → counts_for new ≡ None → in_flight state ≤ in_flight (with_server state s new)
    → IsGiven (with_server state s new) t command → IsGiven state t command
given-back state s t new command apart h more given =
    let other : t ≢ s = λ e. apart (sym e) in
    let read : server_of (with_server state s new) t ≡ server_of state t = get_or-set_other state.servers s t new no_server other in
    let why : IsBind state t command ⊎ IsDrain state t command =
    elim (given.why) [
      | inl (r, (free, aims, is)) ↦ inl (r, (sym (ap (λ (server : Server). server.stand) read) ∙ free, sym (ap (λ (server : Server). server.target) read) ∙ aims, is))
      | inr (q, (bound, aims, spare, is)) ↦
          inr (
            q,
            (
              sym (ap (λ (server : Server). server.stand) read) ∙ bound,
              sym (ap (λ (server : Server). is_target server.target q) read) ∙ aims,
              spares-back state s t new q apart h spare,
              is,
            ),
          )
    ] in
    record {
      up = sym (ap (λ (server : Server). server.up) read) ∙ given.up;
      waits = sym (ap (λ (server : Server). server.waits) read) ∙ given.waits;
      room = omega (arith, more, given.room);
      why = why;
    }

guard-is : (up waits room : Bool) (o : Option Command) → up ≡ true → waits ≡ false → room ≡ true → cond (up && not waits && room) o None ≡ o
guard-is true false true o u w r = refl
guard-is true false false o u w r = cc
guard-is true true room o u w r = cc
guard-is false waits room o u w r = cc

bind-is : (state : State) (t r : ℕ) (stand : Stand) (target : Option ℕ) → stand ≡ Free → target ≡ Some r → command_at state t target stand ≡ Some (Bind t r)
bind-is state t r stand target e k = ap (command_at state t target) e ∙ ap (λ (o : Option ℕ). command_at state t o Free) k

drain-cond : (aims spare : Bool) (t : ℕ) → aims ≡ false → spare ≡ true → ◌≡◌ {A = Option Command} (cond (not aims && spare) (Some (Drain t)) None) (Some (Drain t))
drain-cond false true t a s = refl
drain-cond false false t a s = cc
drain-cond true spare t a s = cc

drain-is : (state : State) (t : ℕ) (stand : Stand) (target : Option ℕ) (q : Holder) → stand ≡ Bound q → is_target target q ≡ false → spares state t q ≡ true
    → command_at state t target stand ≡ Some (Drain t)
drain-is state t stand target q e aims spare = ap (command_at state t target) e ∙ drain-cond (is_target target q) (spares state t q) t aims spare

given-command : (state : State) (t : ℕ) (command : Command) → IsGiven state t command → command_of state t ≡ Some command
given-command state t command given =
    let room : nat_lt (in_flight state) state.at_once ≡ true = grind (arith, nat_tests, given.room) in
    let server : Server = server_of state t in
    guard-is server.up server.waits (nat_lt (in_flight state) state.at_once) (command_at state t server.target server.stand) given.up given.waits room
    ∙ (elim (given.why) [
      | inl (r, (free, aims, is)) ↦ bind-is state t r server.stand server.target free aims ∙ ap Some (sym is)
      | inr (q, (bound, aims, spare, is)) ↦ drain-is state t server.stand server.target q bound aims spare ∙ ap Some (sym is)
    ])

none-still : (state : State) (s t : ℕ) (new : Server) (o : Option Command) → s ≢ t → counts_for new ≡ None → in_flight state ≤ in_flight (with_server state s new)
    → command_of state t ≡ None → command_of (with_server state s new) t ≡ o → o ≡ None
none-still state s t new None apart h more none is = refl
none-still state s t new (Some command) apart h more none is =
    absurd (none-some command (sym none ∙ given-command state t command (given-back state s t new command apart h more (given-of (with_server state s new) t command is))))

-- ---- the server of the command is in flight

moving-none : (state : State) (s : ℕ) (target : Option ℕ) (stand : Stand) → stand_moves stand ≡ true → command_at state s target stand ≡ None
moving-none state s target Free h = cc
moving-none state s target (Joining r) h = refl
moving-none state s target (Bound q) h = cc
moving-none state s target (Draining q) h = refl

cond-none : (b : Bool) (o : Option Command) → o ≡ None → ◌≡◌ {A = Option Command} (cond b o None) None
cond-none true o h = h
cond-none false o h = refl

own-none : (state : State) (s : ℕ) (stand : Stand) → s < length state.servers → stand_moves stand ≡ true → command_of (with_stand state s stand) s ≡ None
own-none state s stand within h =
    let u : State = with_stand state s stand in
    let read : server_of u s ≡ record (server_of state s) { stand = stand } = get_or-set_same state.servers s (record (server_of state s) { stand = stand }) no_server within in
    cond-none ((server_of u s).up && not (server_of u s).waits && nat_lt (in_flight u) u.at_once) (command_at u s (server_of u s).target (server_of u s).stand)
    (moving-none u s (server_of u s).target (server_of u s).stand (ap (λ (server : Server). stand_moves server.stand) read ∙ h))

not-counted : (up : Bool) (bound : Option ℕ) → bound ≡ None → ◌≡◌ {A = Option ℕ} (cond up bound None) None
not-counted true bound h = h
not-counted false bound h = refl

stand-next : (state : State) (s : ℕ) (stand : Stand) → s < length state.servers → moves (server_of state s) ≡ false → stand_moves stand ≡ true → bound_for stand ≡ None
    → NoneBelow state s → NoneBelow (with_stand state s stand) (s + 1)
stand-next state s stand within still flies unbound below t lt =
    let new : Server = record (server_of state s) { stand = stand } in
    let more : in_flight state ≤ in_flight (with_server state s new) = omega (arith, flight-more state s stand within still flies) in
    elim (cases_eq s t) [
      | inl e ↦ subst (λ (n : ℕ). command_of (with_stand state s stand) n ≡ None) e (own-none state s stand within flies)
      | inr apart ↦
          let before : t < s = omega (arith, lt, apart) in
          none-still state s t new (command_of (with_server state s new) t) apart (not-counted (server_of state s).up (bound_for stand) unbound) more (below t before) refl
    ]

-- ---- the first of the numbers that has one

first-before : (f : ℕ → Option Command) (a n : ℕ) (command : Command) (o : Option Command) → f a ≡ o → first_some f (range_with_len a n) ≡ Some command
    → (s : ℕ) × ((s < a + n) × ((f s ≡ Some command) × ((t : ℕ) → a ≤ t → t < s → f t ≡ None)))
first-before f a zero command o e h = absurd (none-some command h)
first-before f a (suc n) command (Some c) e h =
    let here : Some c ≡ Some command = sym (ap (λ (p : Option Command). option_or p (first_some f (range_with_len (a + 1) n))) e) ∙ h in
    (a, (omega arith, (e ∙ here, λ t low high. absurd (omega (arith, low, high)))))
first-before f a (suc n) command None e h =
    let rest : first_some f (range_with_len (a + 1) n) ≡ Some command = sym (ap (λ (p : Option Command). option_or p (first_some f (range_with_len (a + 1) n))) e) ∙ h in
    let k = first-before f (a + 1) n command (f (a + 1)) refl rest in (
      k.0,
      (
        omega (arith, k.1.0),
        (
          k.1.1.0,
          λ t low high.
              elim (cases_eq a t) [
                | inl same ↦ sym (ap f same) ∙ e
                | inr apart ↦ k.1.1.1 t (omega (arith, low, apart)) high
              ],
        ),
      ),
    )

pub next-below : (state : State) (command : Command) → least_command state ≡ Some command → NoneBelow (after_command state command) (commanded command + 1)
next-below state command h =
    let k = first-before (command_of state) 0 (length state.servers) command (command_of state 0) refl h in
    let s : ℕ = k.0 in
    let within : s < length state.servers = omega (arith, k.1.0) in
    let given = given-of state s command k.1.1.0 in
    let below : NoneBelow state s = λ t lt. k.1.1.1 t (omega arith) lt in
    elim (given.why) [
      | inl (p, (free, aims, is)) ↦
          subst (λ (c : Command). NoneBelow (after_command state c) (commanded c + 1)) (sym is)
          (stand-next state s (Joining p) within (ap stand_moves free) refl refl below)
      | inr (q, (bound, aims, spare, is)) ↦
          subst (λ (c : Command). NoneBelow (after_command state c) (commanded c + 1)) (sym is)
          (stand-next state s (drained_stand (server_of state s).stand) within (ap stand_moves bound)
          (ap (λ stand. stand_moves (drained_stand stand)) bound) (ap (λ stand. bound_for (drained_stand stand)) bound) below)
    ]

pub commanded-within : (state : State) (command : Command) → least_command state ≡ Some command → commanded command < length state.servers
commanded-within state command h =
    let k = first-before (command_of state) 0 (length state.servers) command (command_of state 0) refl h in
    let given = given-of state k.0 command k.1.1.0 in
    elim (given.why) [
      | inl (p, (free, aims, is)) ↦ subst (λ (c : Command). commanded c < length state.servers) (sym is) (let w : k.0 < length state.servers = omega (arith, k.1.0) in w)
      | inr (q, (bound, aims, spare, is)) ↦ subst (λ (c : Command). commanded c < length state.servers) (sym is) (let w : k.0 < length state.servers = omega (arith, k.1.0) in w)
    ]

-- ---- where no server has a lawful command there is no least one

pub none-first : (f : ℕ → Option Command) (n : ℕ) → ((t : ℕ) → t < n → f t ≡ None) → first_some f (range_with_len 0 n) ≡ None
none-first f zero h = refl
none-first f (suc n) h =
    let next : suc n ≡ n + 1 = omega arith in
    ap (λ m. first_some f (range_with_len 0 m)) next ∙ first-more f n (none-first f n (λ t lt. h t (omega (arith, lt)))) ∙ h n (omega arith)

no-room : (up waits room : Bool) (o : Option Command) → room ≡ false → ◌≡◌ {A = Option Command} (cond (up && not waits && room) o None) None
no-room true false false o h = refl
no-room true true false o h = refl
no-room false waits false o h = refl
no-room up waits true o h = cc

pub full-none : (state : State) → state.at_once ≤ in_flight state → least_command state ≡ None
full-none state full =
    let room : nat_lt (in_flight state) state.at_once ≡ false = grind (arith, nat_tests, full) in
    none-first (command_of state) (length state.servers) (λ t lt.
    no-room (server_of state t).up (server_of state t).waits (nat_lt (in_flight state) state.at_once) (command_at state t (server_of state t).target (server_of state t).stand) room)
