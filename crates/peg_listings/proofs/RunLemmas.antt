-- The maximal runs of bytes, found from the last byte to the first.
use Rattle.std.proofs.Common.{◌≡◌, ℕ, ◌+◌, ◌<◌, Bool, true, false, List, [], ◌∷◌, ◌++◌, length, map, drop, get_or, reverse, refl, sym, ap, ◌∙◌}
use Rattle.std.proofs.lemmas.Bool.{cond-true, cond-false, eq-eqb, ne_eqb}
use Rattle.std.proofs.lemmas.List.{drop_more, map_push, reverse-append}
use Rattle.peg_bytes.specs.ByteSet.{Bytes}
use Rattle.peg_listings.specs.ByteRuns.{IsApart, byte_run_of}
use Rattle.peg_listings.specs.CodeText.{run_between, runs_from, with_byte}
use Rattle.peg_listings.specs.CodeText as text
use Rattle.peg_listings.specs.declared.byte_runs.ByteRun.{ByteRun}

-- pushing a run puts it first in the reversed list
pub pushed : (old new : List ByteRun) (run : ByteRun) → new ≡ old ++ run ∷ []
    → reverse (map byte_run_of new) ≡ byte_run_of run ∷ reverse (map byte_run_of old)
pushed old new run is =
    ap (λ l. reverse (map byte_run_of l)) is ∙ ap reverse (map_push byte_run_of old run) ∙ reverse-append (map byte_run_of old) (byte_run_of run ∷ [])

-- a byte extends a run that starts at the next byte
pub joined : (byte : ℕ) (run : text.ByteRun) (runs : List text.ByteRun) → run.first ≡ byte + 1
    → run_between byte run.last ∷ runs ≡ with_byte byte (run ∷ runs)
joined byte run runs following = sym (cond-true _ _ _ (eq-eqb run.first (byte + 1) following))

-- a byte is a run of its own if no run starts at the next byte
pub apart : (byte : ℕ) (runs : List text.ByteRun) → IsApart byte runs
    → run_between byte byte ∷ runs ≡ with_byte byte runs
apart byte [] far = refl
apart byte (run ∷ runs) far = sym (cond-false _ _ _ (ne_eqb run.first (byte + 1) far))

-- the runs after one more byte, which is in the set or not
pub runs_from-in : (set : Bytes) (byte : ℕ) (d : Bool) → byte < length set → get_or set byte d ≡ true
    → runs_from byte (drop byte set) ≡ with_byte byte (runs_from (byte + 1) (drop (byte + 1) set))
runs_from-in set byte d within is =
    ap (runs_from byte) (drop_more set byte d within ∙ ap (λ (b : Bool). b ∷ drop (byte + 1) set) is)

pub runs_from-out : (set : Bytes) (byte : ℕ) (d : Bool) → byte < length set → get_or set byte d ≡ false
    → runs_from byte (drop byte set) ≡ runs_from (byte + 1) (drop (byte + 1) set)
runs_from-out set byte d within is =
    ap (runs_from byte) (drop_more set byte d within ∙ ap (λ (b : Bool). b ∷ drop (byte + 1) set) is)
