use Rattle.std.proofs.Common.{◌+◌, ◌<◌, ◌≤◌, ◌++◌, None, take, length, replicate, ap, sym, ◌∙◌, arith}
use Rattle.std.proofs.lemmas.List.{length-append, length-replicate}
use Rattle.ip_model.specs.declared.parts.Column.{Column}
use Rattle.ip_model.specs.declared.parts.Mark.TheVariants.{Count}
use Rattle.class_expand.specs.Dealing.{put_all, dealt}
use Rattle.class_expand.proofs.Dealings.{room, deal-step, dealt-more, dealt-all, put_all-short}
use Rattle.class_expand.proofs.expansion.hand_out.Goals as goal

pub overflow_add-next : goal.overflow_add-next
overflow_add-next c =
    let d : Column = record { cost = 0; top = 0; mark = Count 0 None } in
    let cs = c.args.columns.now in
    let ns = c.args.point.now in
    let inside = c.loop-j-test.true in
    let beside : c.loop-j.j < length ns = omega (arith, c.requires.size) in
    let fits = room c.args.class cs ns c.loop-j.j d c.loop-j.next c.given-count.result (length c.args.members.now) inside beside c.loop-j.invariant.1 c.given-count.ensures.count c.requires.enough in
    omega (arith, fits, c.requires.few)

pub offset_bounds-members-next : goal.offset_bounds-members-next
offset_bounds-members-next c =
    let d : Column = record { cost = 0; top = 0; mark = Count 0 None } in
    let cs = c.args.columns.now in
    let ns = c.args.point.now in
    let inside = c.loop-j-test.true in
    let beside : c.loop-j.j < length ns = omega (arith, c.requires.size) in
    let fits = room c.args.class cs ns c.loop-j.j d c.loop-j.next c.given-count.result (length c.args.members.now) inside beside c.loop-j.invariant.1 c.given-count.ensures.count c.requires.enough in
    omega (arith, fits, c.requires.few)

pub slice_bounds-give-end : goal.slice_bounds-give-end
slice_bounds-give-end c =
    let d : Column = record { cost = 0; top = 0; mark = Count 0 None } in
    let cs = c.args.columns.now in
    let ns = c.args.point.now in
    let inside = c.loop-j-test.true in
    let beside : c.loop-j.j < length ns = omega (arith, c.requires.size) in
    let fits = room c.args.class cs ns c.loop-j.j d c.loop-j.next c.given-count.result (length c.args.members.now) inside beside c.loop-j.invariant.1 c.given-count.ensures.count c.requires.enough in
    fits

pub loop-j-preserved : goal.loop-j-preserved
loop-j-preserved c =
    let d : Column = record { cost = 0; top = 0; mark = Count 0 None } in
    let cs = c.args.columns.now in
    let ns = c.args.point.now in
    let inside = c.loop-j-test.true in
    let beside : c.loop-j.j < length ns = omega (arith, c.requires.size) in
    let fits = room c.args.class cs ns c.loop-j.j d c.loop-j.next c.given-count.result (length c.args.members.now) inside beside c.loop-j.invariant.1 c.given-count.ensures.count c.requires.enough in
    let before = dealt c.args.class (take c.loop-j.j cs) (take c.loop-j.j ns) in
    let more = dealt-more c.args.class cs ns c.loop-j.j d inside beside in
    let step = ap (λ n. replicate n c.goes_to.result) c.given-count.ensures.count ∙ ap (replicate _) c.goes_to.ensures in
    let put = deal-step c.args.a.now.of c.loop-j.a.of c.give.new.a.of c.args.members.now c.loop-j.next c.given-count.result before c.goes_to.result fits c.loop-j.invariant.1 c.loop-j.invariant.0 c.give.ensures.given in (
      put ∙ ap (λ ts. put_all c.args.a.now.of (take (c.loop-j.next + c.given-count.result) c.args.members.now) (before ++ ts)) step
          ∙ ap (put_all c.args.a.now.of (take (c.loop-j.next + c.given-count.result) c.args.members.now)) (sym more),
      omega (arith, c.loop-j.invariant.1, ap length more, ap length step, length-append before (replicate c.given-count.result c.goes_to.result), length-replicate c.given-count.result c.goes_to.result, ap (λ ts. length (before ++ ts)) step),
      c.give.ensures.size ∙ c.loop-j.invariant.2,
    )

pub returns-clause-given : goal.returns-clause-given
returns-clause-given c =
    let all = dealt-all c.args.class c.args.columns.now c.args.point.now c.loop-j.j c.loop-j-test.false c.requires.size in
    let size : length (dealt c.args.class c.args.columns.now c.args.point.now) ≤ c.loop-j.next = omega (arith, c.loop-j.invariant.1, ap length all) in
    c.loop-j.invariant.0
    ∙ ap (put_all c.args.a.now.of (take c.loop-j.next c.args.members.now)) all
    ∙ put_all-short c.args.a.now.of c.args.members.now (dealt c.args.class c.args.columns.now c.args.point.now) c.loop-j.next size
