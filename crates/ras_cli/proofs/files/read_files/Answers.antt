use Rattle.std.proofs.Common.{◌≤◌, ◌+◌, ◌*◌, ◌^◌, ◌∙◌, ◌∷◌, [], ap, length, length-append, arith}
use Rattle.ras_cli.proofs.ReadLemmas.{all-more, if-failed, if-long, push-ok, texts-so-far, within-most}
use Rattle.ras_cli.proofs.ReadsLemmas.{all-more-read, stops-read, last-unkept}
use Rattle.ras_cli.proofs.files.read_files.Goals as goal

pub returns-in-Err-clause-order : goal.returns-in-Err-clause-order
returns-in-Err-clause-order g c =
    stops-read g.S.Shelf.reads c.args.named.now c.loop-file.file-index _ c.args.shelf.now c.loop-file.shelf c.read.new.self c.loop-file.files.items c.in-Err.fault
    c.loop-file-test.true c.loop-file.invariant.order c.in-Err.ensures.reads

pub returns-then-is_err-clause-order : goal.returns-then-is_err-clause-order
returns-then-is_err-clause-order g c =
    last-unkept g.S.Shelf.reads c.args.named.now c.loop-file.file-index _ c.args.shelf.now c.loop-file.shelf c.read.new.self c.loop-file.files.items c.in-Ok.bytes
    c.loop-file-test.true c.loop-file.invariant.order c.in-Ok.ensures.reads

pub returns-in-Err-clause-broke : goal.returns-in-Err-clause-broke
returns-in-Err-clause-broke g c =
    λ e.
    if-failed c.in-Err.fault (g.S.Shelf.held c.args.shelf.now) c.args.named.now c.loop-file.file-index _ (g.S.Shelf.broke c.args.shelf.now) (g.S.Shelf.broke c.loop-file.shelf)
    (g.S.Shelf.broke c.read.new.self) c.loop-file-test.true c.loop-file.invariant.broke
    (rw c.loop-file.invariant.held at c.in-Err.ensures.told) (cc)

pub returns-in-Err-clause-longer : goal.returns-in-Err-clause-longer
returns-in-Err-clause-longer g c =
    λ e.
    if-long c.in-Err.fault (g.S.Shelf.held c.args.shelf.now) c.args.named.now c.loop-file.file-index _ (g.S.Shelf.broke c.loop-file.shelf) (g.S.Shelf.broke c.read.new.self)
    c.loop-file-test.true (rw c.loop-file.invariant.held at c.in-Err.ensures.told) (cc)

pub loop-file-preserved : goal.loop-file-preserved
loop-file-preserved g c =
    let pushed = push-ok c.push.result _ _ _ c.if-is_err.ensures.value c.push.ensures.items in
    record {
      held = c.in-Ok.ensures.held ∙ c.loop-file.invariant.held;
      faults = omega (arith, c.in-Ok.ensures.faults_later, c.loop-file.invariant.faults);
      broke = omega (arith, c.in-Ok.ensures.broke_later, c.loop-file.invariant.broke);
      taken = omega (arith, c.in-Ok.ensures.taken_later, c.loop-file.invariant.taken);
      over = c.in-Ok.ensures.over ∙ c.loop-file.invariant.over;
      each = ap (λ fs. length fs) pushed ∙ (length-append c.loop-file.files.items (c.in-Ok.bytes ∷ []) ∙ ap (λ n. n + 1) c.loop-file.invariant.each);
      small = all-more (λ f. length f.items ≤ 64 * 2 ^ 20) _ _ _ pushed c.loop-file.invariant.small
          (within-most c.args.named.now c.loop-file.file-index _ _ c.loop-file-test.true c.requires c.in-Ok.ensures.fits);
      texts = texts-so-far (g.S.Shelf.held c.args.shelf.now) (g.S.Shelf.held c.loop-file.shelf) c.args.named.now c.loop-file.file-index _ c.loop-file.files.items c.push.new.self.items
          (g.S.Shelf.broke c.loop-file.shelf) (g.S.Shelf.broke c.read.new.self) c.in-Ok.bytes c.loop-file-test.true pushed c.loop-file.invariant.held c.loop-file.invariant.texts
          c.in-Ok.ensures.told c.in-Ok.ensures.fits;
      order = all-more-read g.S.Shelf.reads c.args.named.now c.loop-file.file-index _ c.args.shelf.now c.loop-file.shelf c.read.new.self c.loop-file.files.items c.push.new.self.items c.in-Ok.bytes
          c.loop-file-test.true pushed c.loop-file.invariant.order c.in-Ok.ensures.reads;
      unread = λ e. absurd (omega arith);
    }
