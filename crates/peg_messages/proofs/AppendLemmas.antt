-- Texts appended one after another.
use Rattle.std.proofs.Common.{◌≡◌, ℕ, List, ◌++◌, ap, ◌∙◌, append_assoc, Result, OnOk}
use Rattle.std.proofs.lemmas.Result.{IfOk-equal}

-- a text, and then one by a call whose result is returned
pub appended : {T E : Type 0} (r : Result T E) (out mid new one other : List ℕ) → mid ≡ out ++ one
    → OnOk r (new ≡ mid ++ other) → OnOk r (new ≡ out ++ (one ++ other))
appended r out mid new one other is last =
    IfOk-equal r new (mid ++ other) (out ++ (one ++ other)) last
    (ap (λ l. l ++ other) is ∙ append_assoc out one other)
