use Rattle.std.proofs.Common.{rules, ◌≡◌, ◌∙◌, ◌++◌, ◌∷◌, [], List, Option, Some, ap, map, string_bytes, sym}
use Rattle.std.proofs.lemmas.List.{map-append}
use Rattle.peg_io.specs.Listing.{name_of}
use Rattle.peg_io.proofs.listing.names_of.Goals as goal

-- one more entry that has a name
named-more : {X Y : Type 0} (f : X → Option Y) (xs : List X) (x : X) (old new : List Y) (y : Y)
    → map f xs ≡ map Some old → f x ≡ Some y → new ≡ old ++ y ∷ [] → map f (xs ++ x ∷ []) ≡ map Some new
named-more f xs x old new y before is more =
    map-append f xs (x ∷ [])
    ∙ (λ i. before i ++ is i ∷ [])
    ∙ sym (map-append Some old (y ∷ []))
    ∙ ap (map Some) (sym more)

pub entries-preserved : goal.entries-preserved
entries-preserved g c =
    named-more name_of c.entries.yielded c.in-Some.entry (map string_bytes c.entries.names.items)
    (map string_bytes c.push_name.new.names.items) c.file_name.result.now c.entries.invariant (search rules) (search rules)
