-- Facts about the value of an option.
use Rattle.std.proofs.Common.{IfSome, Option, None, Some}

pub if_some_weaken : {X : Type 0} {P Q : X → Type 0} (option : Option X) → ((x : X) → P x → Q x)
    → IfSome option P → IfSome option Q
if_some_weaken None weaken holds = tt
if_some_weaken (Some x) weaken holds = weaken x holds
