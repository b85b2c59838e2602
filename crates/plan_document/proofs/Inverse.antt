-- What the steps of a reading say of what they give.
use Rattle.std.proofs.Common.{◌≡◌, refl, Bool, true, false, Option, Some, None, option_and_then, option_map, if◌then◌else◌}
use Rattle.std.specs.Prelude.{Result, Ok, Err}
use Rattle.plan_document.specs.Faults.{ok_or, and_then}
use Rattle.plan_document.specs.declared.fault.DocPlace.{DocPlace}
use Rattle.plan_document.specs.declared.fault.DocWhy.{DocWhy}
use Rattle.plan_document.specs.declared.fault.DocFault.{DocFault}

-- the first of two steps
pub step-before : {A B : Type 0} (r : Result A DocFault) (f : A → Result B DocFault) (y : B) → and_then r f ≡ Ok y → (x : A) × (r ≡ Ok x) × (f x ≡ Ok y)
step-before (Ok x) f y e = (x, refl, e)
step-before (Err w) f y e = absurd (cc)

pub option-given : {A : Type 0} (p : DocPlace) (w : DocWhy) (o : Option A) (x : A) → ok_or p w o ≡ Ok x → o ≡ Some x
option-given p w None x e = absurd (cc)
option-given p w (Some y) x e = cc

pub some-before : {A B : Type 0} (o : Option A) (f : A → Option B) (y : B) → option_and_then f o ≡ Some y → (x : A) × (o ≡ Some x) × (f x ≡ Some y)
some-before None f y e = absurd (cc)
some-before (Some x) f y e = (x, refl, e)

pub mapped-from : {A B : Type 0} (f : A → B) (o : Option A) (y : B) → option_map f o ≡ Some y → (x : A) × (o ≡ Some x) × (f x ≡ y)
mapped-from f None y e = absurd (cc)
mapped-from f (Some x) y e = (x, refl, cc)

pub test-passed : {A : Type 0} (b : Bool) (x y : A) → ◌≡◌ {A = Option A} (if b then Some x else None) (Some y) → (b ≡ true) × (x ≡ y)
test-passed true x y e = (refl, cc)
test-passed false x y e = absurd (cc)

-- a test that lets another answer through
pub test-open : {A : Type 0} (b : Bool) (o : Option A) (y : A) → ◌≡◌ {A = Option A} (if b then o else None) (Some y) → (b ≡ true) × (o ≡ Some y)
test-open true o y e = (refl, e)
test-open false o y e = absurd (cc)
