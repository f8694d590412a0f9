use Rattle.std.proofs.Common.{◌≡◌, Option, None, Some, option_map, ap, refl}
use Rattle.std.proofs.lemmas.Result.{IfOk-weaker}
use Rattle.clap.specs.Matches.{found_of}
use Rattle.peg_cli.proofs.words.command_of.Goals as goal

-- an optional pair, by its first and its second parts
paired : {S A B : Type 0} (both : S → A × B) (s : Option S) (a : A) (b : B)
    → Some a ≡ option_map (λ (x : S). (both x).0) s → Some b ≡ option_map (λ (p : A × B). p.1) (option_map both s)
    → option_map both s ≡ Some (a, b)
paired both None a b first second = let bad : Some a ≡ None = first in cc
paired {S} {A} {B} both (Some x) a b first second =
    let one : a ≡ (both x).0 = cc in
    let other : b ≡ (both x).1 = cc in
    let whole : A × B = (a, b) in
    let same : both x ≡ whole = rw (one, other) refl in
    ap Some same

pub returns-in-Some-clause-command : goal.returns-in-Some-clause-command
returns-in-Some-clause-command c =
    IfOk-weaker c.named_command.result _ _ (λ words is. (
      c.in-Some.name.now,
      found_of c.in-Some.words.now,
      paired _ _ _ _ c.in-Some.ensures.name c.in-Some.ensures.rows,
      is,
    )) c.named_command.ensures.command
