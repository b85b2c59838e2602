use Rattle.ras_requests.proofs.LimitsLemmas.{requests-kept}
use Rattle.ras_requests.proofs.read.read_requests.Goals as goal

pub invariant_of-result : goal.invariant_of-result
invariant_of-result c = record {
  kept = requests-kept c.in-Ok-top_of.top.1 c.in-Ok-reservations_of.list c.in-Ok-top_of.ensures.range c.in-Ok-reservations_of.ensures.few c.in-Ok-reservations_of.ensures.rule;
}
