use Rattle.std.proofs.Common.{refl, sym, true≢false}
use Rattle.serde_json.specs.View.{view}
use Rattle.plan_document.proofs.ReadLemmas.{json-ok, json-none}
use Rattle.plan_document.proofs.Sizes.{read-small}
use Rattle.plan_document.proofs.document.value_of.Goals as goal

pub returns-in-Ok-clause-small : goal.returns-in-Ok-clause-small
returns-in-Ok-clause-small c = read-small c.args.bytes.now (view c.in-Ok.value) c.requires c.in-Ok.ensures.ok.1

pub returns-in-Ok-clause-is : goal.returns-in-Ok-clause-is
returns-in-Ok-clause-is c = json-ok c.args.bytes.now (view c.in-Ok.value) c.in-Ok.ensures.ok.0 c.in-Ok.ensures.ok.1

pub returns-else-is_memory-clause-is : goal.returns-else-is_memory-clause-is
returns-else-is_memory-clause-is c = (json-none c.args.bytes.now (c.in-Err.ensures.err (λ m. true≢false (sym (c.if-is_memory.ensures.1 m)))), refl, refl)
