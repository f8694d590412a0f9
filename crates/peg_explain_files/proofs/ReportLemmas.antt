-- What is reported of a text.
use Rattle.std.proofs.Common.{◌≡◌, ℕ, IfSome, List, Option, Some, option_map, subst}
use Rattle.std.specs.declared.alloc.Global.{Global}
use Rattle.std.specs.declared.vec.Vec.{Vec}
use Rattle.peg_explain.specs.Explanations.{IsExplanationIn}
use Rattle.peg_explain.specs.declared.style.ItemStyle.{ItemStyle}
use Rattle.peg_messages.specs.declared.lines.TextLines.{TextLines}
use Rattle.peg_semantics.specs.Rules.{Rule}

-- the explanation of a text from the start rule that is found, by the bytes of its name
pub explained-from : (file : List ℕ) (rules : List Rule) (style : ItemStyle) (lines : TextLines) (written name text from : List ℕ) (found : Option (List ℕ))
    (result message : Option (Vec ℕ Global)) → found ≡ Some from → written ≡ name → result ≡ message
    → IfSome found (λ start. IsExplanationIn file rules style lines written text start (option_map (λ bytes. bytes.items) result))
    → IsExplanationIn file rules style lines name text from (option_map (λ bytes. bytes.items) message)
explained-from file rules style lines written name text from found result message is same of_result explained =
    subst (λ (m : Option (Vec ℕ Global)). IsExplanationIn file rules style lines name text from (option_map (λ bytes. bytes.items) m)) of_result
    (subst (λ (n : List ℕ). IsExplanationIn file rules style lines n text from (option_map (λ bytes. bytes.items) result)) same
    (subst (λ (f : Option (List ℕ)). IfSome f (λ start. IsExplanationIn file rules style lines written text start
    (option_map (λ bytes. bytes.items) result))) is explained))
