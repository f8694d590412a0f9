-- Writing in parts.
use Rattle.std.proofs.Common.{◌≡◌, ℕ, ◌+◌, List, ◌++◌, Option, Result, Ok, Err, OnErr, length, take, drop, refl, sym, ap, subst, ◌∙◌, arith, length-append}
use Rattle.std.proofs.Math.Seq.{take-add}
use Rattle.std.proofs.lemmas.List.{take_at, drop_at, take-append-le}
use Rattle.std.proofs.KnownBytes.{Appends-trans}
use Rattle.std.specs.Io.KnownBytes.{Appends}
use Rattle.peg_io.specs.Transfer.{AppendsProperPrefix}

-- a fact that holds anyway holds if there is an error
pub on-err : {X Y P : Type 0} (result : Result X Y) → P → OnErr result P
on-err (Ok value) holds = tt
on-err (Err why) holds = holds

-- a proper prefix of some bytes is one of those bytes with more appended
pub prefix-longer : (old new : Option (List ℕ)) (bytes more : List ℕ) → AppendsProperPrefix old new bytes
    → AppendsProperPrefix old new (bytes ++ more)
prefix-longer old new bytes more cut = (
  cut.0,
  omega (arith, cut.1, length-append bytes more),
  subst (Appends old new) (sym (take-append-le cut.0 bytes more (omega (arith, cut.1)))) cut.2,
)

-- some bytes followed by a proper prefix of more bytes are a proper prefix of all
pub prefix-following : (old mid new : Option (List ℕ)) (done more : List ℕ) → Appends old mid done
    → AppendsProperPrefix mid new more → AppendsProperPrefix old new (done ++ more)
prefix-following old mid new done more first cut =
    let all : take (length done + cut.0) (done ++ more) ≡ done ++ take cut.0 more =
    take-add (length done) cut.0 (done ++ more)
    ∙ ap (λ l. l ++ take cut.0 (drop (length done) (done ++ more))) (take_at done more (length done) refl)
    ∙ ap (λ l. done ++ take cut.0 l) (drop_at done more (length done) refl) in (
      length done + cut.0,
      omega (arith, cut.1, length-append done more),
      subst (Appends old new) (sym all) (Appends-trans old mid new done (take cut.0 more) first cut.2),
    )
