use Rattle.std.proofs.Common.{◌≡◌, ◌+◌, ◌<◌, Bool, true, false, cond, List, [], ◌∷◌, ◌++◌, set, take, get_or, length, arith, ap, sym, ◌∙◌, append-nil, refl}
use Rattle.std.specs.Prelude.{not, Some, None}
use Rattle.plan_model.specs.declared.cases.Place.{Place}
use Rattle.std.specs.List.{list_any}
use Rattle.std.proofs.lemmas.Option.{get_or_from_slice_get}
use Rattle.std.proofs.lemmas.List.{length-take}
use Rattle.plan_model.specs.Units.{place_of, no_place}
use Rattle.plan_model.proofs.SumLemmas.{few-places}
use Rattle.symmetry_classes.specs.contracts.keys.KeyPartialEq.TheImpl.{ghosts as keys}
use Rattle.symmetry_classes.specs.declared.groups.Class.{Class as Group}
use Rattle.symmetry_classes.specs.Groups.{flagged_servers, classes_of}
use Rattle.symmetry_classes.specs.Keys.{IsFound, key_of, keys_of}
use Rattle.symmetry_classes.proofs.Found.{flagged_more, begun, joined, joined-write, joined_by, alone, members-few, length-flagged}
use Rattle.symmetry_classes.proofs.grouping.put.Goals as goal

is-old : (new old : Bool) → new ≡ not old → new ≡ false → old ≡ true
is-old new true e f = refl
is-old new false e f = cc

is-new : (new old : Bool) → new ≡ not old → new ≡ true → old ≡ false
is-new new true e f = cc
is-new new false e f = refl

pub returns-then-not-movable-server : goal.returns-then-not-movable-server
returns-then-not-movable-server c =
    let unset : get_or c.args.movable.now c.args.server false ≡ false = c.if-not-movable-server.true in
    let same : flagged_servers (take (c.args.server + 1) c.args.movable.now) ≡ flagged_servers (take c.args.server c.args.movable.now) =
    flagged_more c.args.movable.now c.args.server (omega arith)
    ∙ ap (λ b. flagged_servers (take c.args.server c.args.movable.now) ++ cond b (c.args.server ∷ []) []) unset
    ∙ append-nil (flagged_servers (take c.args.server c.args.movable.now)) in
    rw same c.requires.found

pub add_member-requires-clause-short : goal.add_member-requires-clause-short
add_member-requires-clause-short c =
    let done = flagged_servers (take c.args.server c.args.movable.now) in
    let key : c.key_of.result ≡ key_of c.args.how c.args.racks c.args.server (place_of c.args.case.now c.args.server) =
    c.key_of.ensures ∙ ap (λ ps. key_of c.args.how c.args.racks c.args.server (get_or ps c.args.server no_place)) c.as_slice.ensures.items in
    let old : list_any (keys.eq c.key_of.result) c.args.found.now.keys.keys ≡ true = is-old c.in_ok-at.is_new _ c.in_ok-at.ensures.added c.if-is_new.false in
    let found = joined c.args.how c.args.racks c.args.case.now done c.args.server c.key_of.result c.args.found.now.keys.keys c.args.found.now.classes.items key c.requires.found old in
    let within : c.in_ok-at.at < length c.args.found.now.classes.items = omega (arith, c.in_ok-at.ensures.index, found.0) in
    let few = members-few c.args.how c.args.racks c.args.case.now done c.args.server c.args.found.now.keys.keys c.args.found.now.classes.items c.in_ok-at.at c.requires.found within in
    λ class is.
    let here : get_or c.args.found.now.classes.items c.in_ok-at.at (alone c.args.how c.args.racks c.args.case.now done c.args.server) ≡ class =
    get_or_from_slice_get c.args.found.now.classes.items c.in_ok-at.at class (alone c.args.how c.args.racks c.args.case.now done c.args.server) is in
    omega (arith, few, ap (λ (g : Group). length g.members) here, length-flagged (take c.args.server c.args.movable.now), length-take c.args.server c.args.movable.now, few-places c.args.case.now)

pub returns-in_ok-push : goal.returns-in_ok-push
returns-in_ok-push c =
    let done = flagged_servers (take c.args.server c.args.movable.now) in
    let set-flag : get_or c.args.movable.now c.args.server false ≡ true = c.if-not-movable-server.false in
    let key : c.key_of.result ≡ key_of c.args.how c.args.racks c.args.server (place_of c.args.case.now c.args.server) =
    c.key_of.ensures ∙ ap (λ ps. key_of c.args.how c.args.racks c.args.server (get_or ps c.args.server no_place)) c.as_slice.ensures.items in
    let new : list_any (keys.eq c.key_of.result) c.args.found.now.keys.keys ≡ false = is-new c.in_ok-at.is_new _ c.in_ok-at.ensures.added c.if-is_new.true in
    let more : flagged_servers (take (c.args.server + 1) c.args.movable.now) ≡ flagged_servers (take c.args.server c.args.movable.now) ++ c.args.server ∷ [] =
    flagged_more c.args.movable.now c.args.server (omega arith)
    ∙ ap (λ b. flagged_servers (take c.args.server c.args.movable.now) ++ cond b (c.args.server ∷ []) []) set-flag in
    let found = begun c.args.how c.args.racks c.args.case.now done c.args.server c.key_of.result c.args.found.now.keys.keys c.args.found.now.classes.items key c.requires.found new in
    let one : List Place → Group = λ places. record {
      kind = (get_or places c.args.server no_place).kind;
      rack = cond c.args.racks (Some (get_or places c.args.server no_place).rack) None;
      board = (get_or places c.args.server no_place).board;
      holder = (get_or places c.args.server no_place).holder;
      busy = (get_or places c.args.server no_place).busy;
      members = c.args.server ∷ [];
    } in
    record {
      keys_found = c.in_ok-at.ensures.keys ∙ found.keys_found ∙ sym (ap (keys_of c.args.how c.args.racks c.args.case.now) more);
      classes_found =
          c.in_ok-push.ensures.items
          ∙ ap (λ g. c.args.found.now.classes.items ++ g ∷ []) (c.in_ok-class_of_one.ensures ∙ ap one c.as_slice.ensures.items)
          ∙ found.classes_found
          ∙ sym (ap (classes_of c.args.how c.args.racks c.args.case.now) more);
    }

pub returns-else-is_new : goal.returns-else-is_new
returns-else-is_new c =
    let done = flagged_servers (take c.args.server c.args.movable.now) in
    let set-flag : get_or c.args.movable.now c.args.server false ≡ true = c.if-not-movable-server.false in
    let key : c.key_of.result ≡ key_of c.args.how c.args.racks c.args.server (place_of c.args.case.now c.args.server) =
    c.key_of.ensures ∙ ap (λ ps. key_of c.args.how c.args.racks c.args.server (get_or ps c.args.server no_place)) c.as_slice.ensures.items in
    let old : list_any (keys.eq c.key_of.result) c.args.found.now.keys.keys ≡ true = is-old c.in_ok-at.is_new _ c.in_ok-at.ensures.added c.if-is_new.false in
    let found = joined c.args.how c.args.racks c.args.case.now done c.args.server c.key_of.result c.args.found.now.keys.keys c.args.found.now.classes.items key c.requires.found old in
    let within : c.in_ok-at.at < length c.args.found.now.classes.items = omega (arith, c.in_ok-at.ensures.index, found.0) in
    let more : flagged_servers (take (c.args.server + 1) c.args.movable.now) ≡ flagged_servers (take c.args.server c.args.movable.now) ++ c.args.server ∷ [] =
    flagged_more c.args.movable.now c.args.server (omega arith)
    ∙ ap (λ b. flagged_servers (take c.args.server c.args.movable.now) ++ cond b (c.args.server ∷ []) []) set-flag in
    joined-write c.args.how c.args.racks c.args.case.now done c.args.server c.add_member.result c.args.found.now.classes.items c.add_member.new.classes.items c.in_ok-at.at
    (IsFound c.args.how c.args.racks c.args.case.now (flagged_servers (take (c.args.server + 1) c.args.movable.now)) c.insert_full.new.self.keys c.add_member.new.classes.items)
    within
    (λ e. record {
      keys_found = c.in_ok-at.ensures.keys ∙ found.1.keys_found ∙ sym (ap (keys_of c.args.how c.args.racks c.args.case.now) more);
      classes_found =
          e
          ∙ ap (λ n. set c.args.found.now.classes.items n (joined_by c.args.how c.args.racks c.args.case.now done c.args.server (get_or c.args.found.now.classes.items n (alone c.args.how c.args.racks c.args.case.now done c.args.server)))) c.in_ok-at.ensures.index
          ∙ found.1.classes_found
          ∙ sym (ap (classes_of c.args.how c.args.racks c.args.case.now) more);
    })
    c.add_member.ensures
