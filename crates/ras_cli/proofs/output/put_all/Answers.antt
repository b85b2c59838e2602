use Rattle.std.proofs.Common.{rules, ◌∙◌, arith, refl}
use Rattle.ras_cli.proofs.PiecesLemmas.{goes-on, stops-in, on-ok, on-err}
use Rattle.ras_cli.proofs.PutsLemmas.{put-all, put-more, put-none, put-stops}
use Rattle.ras_cli.proofs.output.put_all.Goals as goal

pub loop-at-preserved : goal.loop-at-preserved
loop-at-preserved g c = (
  omega arith,
  on-ok c.put.result c.if-is_err.ensures.value c.put.ensures.kept ∙ c.loop-at.invariant.1,
  goes-on _ _ _ c.args.text.now c.loop-at.at c.min.result c.loop-at.invariant.2 (on-ok c.put.result c.if-is_err.ensures.value c.put.ensures.ok),
  put-more g.K.Sink.puts 4096 c.loop-at.at c.min.result c.args.out.now c.loop-at.out c.put.new.self c.args.text.now c.put.result (omega arith) (omega arith) (omega arith) c.if-is_err.ensures.value c.loop-at.invariant.3 c.put.ensures.puts,
)

pub returns-then-is_err-clause-some : goal.returns-then-is_err-clause-some
returns-then-is_err-clause-some g c =
    stops-in _ _ _ c.args.text.now c.loop-at.at c.min.result c.loop-at.invariant.2 (on-err c.put.result c.if-is_err.ensures.value c.put.ensures.some)

pub loop-at-init : goal.loop-at-init
loop-at-init g c = (omega arith, refl, search rules, put-none g.K.Sink.puts 4096 c.args.out.now c.args.text.now)

pub returns-clause-pieces : goal.returns-clause-pieces
returns-clause-pieces g c = put-all g.K.Sink.puts 4096 c.loop-at.at c.args.out.now c.loop-at.out c.args.text.now (omega arith) c.loop-at.invariant.3

pub returns-then-is_err-clause-stops : goal.returns-then-is_err-clause-stops
returns-then-is_err-clause-stops g c =
    put-stops g.K.Sink.puts 4096 c.loop-at.at c.min.result c.args.out.now c.loop-at.out c.put.new.self c.args.text.now c.put.result (omega arith) (omega arith) (omega arith) c.if-is_err.ensures.value c.loop-at.invariant.3 c.put.ensures.puts
