-- The nodes of a document, or their first fault.
use Rattle.std.specs.Prelude.{Option, Some, None, Result, Ok, Err}
use Rattle.serde_json.specs.Data.{Data}
use Rattle.plan_document.specs.Shapes.{shape_of, if_fits}
use Rattle.plan_document.specs.declared.shape.Shape.{Shape}
use Rattle.plan_document.specs.declared.fault.DocPlace.{DocPlace}
use Rattle.plan_document.specs.declared.fault.DocWhy.{DocWhy}
use Rattle.plan_document.specs.declared.fault.DocWhy.TheVariants as why
use Rattle.plan_document.specs.declared.fault.DocFault.{DocFault}
use Rattle.plan_document.specs.declared.fault.DocFault.TheVariants.{At, Memory}

abbrev pub told : DocFault → Option DocFault
told (At place w) = Some (At place w)
told Memory = None

abbrev pub ok_or : {X : Type 0} → DocPlace → DocWhy → Option X → Result X DocFault
ok_or place w None = Err (At place w)
ok_or place w (Some x) = Ok x

abbrev pub and_then : {A B : Type 0} → Result A DocFault → (A → Result B DocFault) → Result B DocFault
and_then (Ok x) f = f x
and_then (Err e) f = Err e

-- a node: first its shape, then its ranges
abbrev pub node_at : DocPlace → Data → Result Shape DocFault
node_at place d = and_then (ok_or place why.Shape (shape_of d)) (λ s. ok_or place why.Range (if_fits s))
