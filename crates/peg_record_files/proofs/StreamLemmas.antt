-- The names and the bytes of several streams.
use Rattle.std.proofs.Common.{◌≡◌, ◌∙◌, ◌+◌, ◌<◌, ℕ, List, [], ◌∷◌, ◌++◌, Option, None, Some, IfSome, OnOk, Result, Ok, Err, ap, drop, get_or, length, map, refl, string_bytes, subst, sym, take}
use Rattle.std.proofs.lemmas.Grind.{flat_map-append}
use Rattle.std.proofs.lemmas.List.{append-nil, map-append, take-append-drop, take_more}
use Rattle.std.proofs.lemmas.List.Elements.{All-nil}
use Rattle.std.specs.List.{flat_map}
use Rattle.std.specs.declared.alloc.Global.{Global}
use Rattle.std.specs.declared.string.String.{String}
use Rattle.peg_io.specs.NamedFile.{IsMissing, NamedFile}
use Rattle.peg_records.specs.Readers.{IsAheadOf}
use Rattle.peg_records.specs.Records.{records}
use Rattle.peg_records.specs.declared.end.RecordEnd.{RecordEnd}
use Rattle.peg_records.specs.declared.reader.RecordReader.{RecordReader}
use Rattle.peg_record_files.specs.Streams.{ArePresent, bytes_of_streams}

-- ---- known bytes

-- what is true of known bytes
pub known : (o : Option (List ℕ)) (x : List ℕ) (P : List ℕ → Type 0) → o ≡ Some x → IfSome o P → P x
known o x P is p = subst (λ (found : Option (List ℕ)). IfSome found P) is p

pub if-known : (o : Option (List ℕ)) (P Q : List ℕ → Type 0) → IfSome o P → ((x : List ℕ) → P x → Q x) → IfSome o Q
if-known None P Q p step = tt
if-known (Some x) P Q p step = step x p

-- what is known of the bytes of a stream before any of them is read
pub some-self : (o : Option (List ℕ)) (P : List ℕ → List ℕ → Type 0) → ((x : List ℕ) → P x x)
    → IfSome o (λ x. (y : List ℕ) × (o ≡ Some y) × P x y)
some-self None P all = tt
some-self (Some x) P all = (x, refl, all x)

-- what was opened has the bytes of the text
pub opened-known : (o held : Option (List ℕ)) (P : List ℕ → Type 0) → IfSome o (λ bytes. held ≡ Some bytes)
    → IfSome held P → IfSome o P
opened-known None held P opened p = tt
opened-known (Some x) held P opened p = known held x P opened p

-- what is true of any bytes
pub any-known : (o : Option (List ℕ)) (P : List ℕ → Type 0) → ((x : List ℕ) → P x) → IfSome o P
any-known None P all = tt
any-known (Some x) P all = all x

-- a block is read: the same records are ahead
pub read-on : (o next : Option (List ℕ)) (left : List ℕ) (old new : RecordReader) (ahead : List (List ℕ)) → o ≡ Some left
    → IfSome o (λ (l : List ℕ). (a : List (List ℕ)) → IsAheadOf old l a
    → (later : List ℕ) × (next ≡ Some later) × IsAheadOf new later a)
    → IsAheadOf old left ahead → (later : List ℕ) × (next ≡ Some later) × IsAheadOf new later ahead
read-on o next left old new ahead is step before =
    known o left (λ (l : List ℕ). (a : List (List ℕ)) → IsAheadOf old l a
    → (later : List ℕ) × (next ≡ Some later) × IsAheadOf new later a) is step ahead before

-- ---- streams and their names

-- lists with equal parts
cons-same : {X : Type 0} (x y : X) (xs ys : List X) → x ≡ y → xs ≡ ys → x ∷ xs ≡ y ∷ ys
cons-same x y xs ys first rest = ap (λ z. z ∷ xs) first ∙ ap (λ l. y ∷ l) rest

-- the first stream
pub first-stream : (f : List ℕ → Option (List ℕ)) (x : List ℕ) (xs streams : List (List ℕ))
    → map f (x ∷ xs) ≡ map Some streams
    → (s : List ℕ) × (rest : List (List ℕ)) × (streams ≡ s ∷ rest) × (f x ≡ Some s) × (map f xs ≡ map Some rest)
first-stream f x xs [] is = let bad : f x ∷ map f xs ≡ [] = is in cc
first-stream f x xs (s ∷ rest) is =
    let same : f x ∷ map f xs ≡ Some s ∷ map Some rest = is in
    let one : f x ≡ Some s = cc in
    let others : map f xs ≡ map Some rest = cc in
    (s, rest, refl, one, others)

-- the streams of the first names and of the others
pub split-streams : (f : List ℕ → Option (List ℕ)) (xs ys streams : List (List ℕ))
    → map f (xs ++ ys) ≡ map Some streams
    → (a b : List (List ℕ)) × (streams ≡ a ++ b) × (map f xs ≡ map Some a) × (map f ys ≡ map Some b)
split-streams f [] ys streams is = ([], streams, refl, refl, is)
split-streams f (x ∷ xs) ys streams is =
    let one = first-stream f x (xs ++ ys) streams is in
    let more = split-streams f xs ys one.1 one.4 in (
      one.0 ∷ more.0,
      more.1,
      one.2 ∙ ap (λ (l : List (List ℕ)). one.0 ∷ l) more.2,
      cons-same (f x) (Some one.0) (map f xs) (map Some more.0) one.3 more.3,
      more.4,
    )

-- no stream
pub texts-empty : (f : List ℕ → Option (List ℕ)) (streams : List (List ℕ)) → map f [] ≡ map Some streams → streams ≡ []
texts-empty f [] is = refl
texts-empty f (s ∷ streams) is = let bad : [] ≡ Some s ∷ map Some streams = is in cc

-- the records of one more stream
pub records-more : (end : RecordEnd) (streams : List (List ℕ)) (stream : List ℕ)
    → flat_map (records end) (streams ++ stream ∷ []) ≡ flat_map (records end) streams ++ records end stream
records-more end streams stream =
    flat_map-append (records end) streams (stream ∷ [])
    ∙ ap (λ (l : List (List ℕ)). flat_map (records end) streams ++ l) (append-nil (records end stream))

-- without a name the only stream is the input
pub input-stream : (end : RecordEnd) (file_at : List ℕ → NamedFile) (input : Option (List ℕ)) (names streams : List (List ℕ))
    → names ≡ [] → bytes_of_streams file_at input names ≡ map Some streams
    → (s : List ℕ) × (input ≡ Some s) × (flat_map (records end) streams ≡ records end s)
input-stream end file_at input [] [] none are = let bad : input ∷ [] ≡ [] = are in cc
input-stream end file_at input [] (s ∷ []) none are =
    let same : input ∷ [] ≡ Some s ∷ [] = are in
    let one : input ≡ Some s = cc in
    (s, one, append-nil (records end s))
input-stream end file_at input [] (s ∷ t ∷ streams) none are =
    let bad : input ∷ [] ≡ Some s ∷ Some t ∷ map Some streams = are in cc
input-stream end file_at input (name ∷ names) streams none are = let bad : name ∷ names ≡ [] = none in cc

-- ---- names

-- one more name
pub names-more : (texts : List (String Global)) (i : ℕ) (text : String Global) (name : List ℕ) → i < length texts
    → text ≡ get_or texts i text → name ≡ string_bytes text
    → map string_bytes (take (i + 1) texts) ≡ map string_bytes (take i texts) ++ name ∷ []
names-more texts i text name within is same =
    sym (ap (λ (n : List ℕ). map string_bytes (take i texts) ++ n ∷ []) (same ∙ ap string_bytes is)
    ∙ (sym (map-append string_bytes (take i texts) (get_or texts i text ∷ []))
    ∙ ap (map string_bytes) (sym (take_more texts i text within))))

-- the names of all texts
pub names-all : (texts : List (String Global)) (n : ℕ)
    → map string_bytes (take n texts) ++ map string_bytes (drop n texts) ≡ map string_bytes texts
names-all texts n =
    sym (map-append string_bytes (take n texts) (drop n texts)) ∙ ap (map string_bytes) (take-append-drop n texts)

-- the names before one of them, and those after it
pub names-around : (texts : List (String Global)) (i : ℕ) (text : String Global) (name : List ℕ) → i < length texts
    → text ≡ get_or texts i text → name ≡ string_bytes text
    → (map string_bytes (take i texts) ++ name ∷ []) ++ map string_bytes (drop (i + 1) texts) ≡ map string_bytes texts
names-around texts i text name within is same =
    ap (λ (l : List (List ℕ)). l ++ map string_bytes (drop (i + 1) texts)) (sym (names-more texts i text name within is same))
    ∙ names-all texts (i + 1)

-- ---- texts that are there

-- without names no text is missing
pub none-missing : {T E : Type 0} (file_at : List ℕ → NamedFile) (names : List (List ℕ)) (result : Result T E)
    → names ≡ [] → OnOk result (ArePresent file_at names)
none-missing file_at names (Ok x) none =
    subst (ArePresent file_at) (sym none) (All-nil (λ (name : List ℕ). ¬ IsMissing (file_at name)))
none-missing file_at names (Err fault) none = tt

-- what holds anyway holds after a success
pub on-ok : {T E P : Type 0} (result : Result T E) → P → OnOk result P
on-ok (Ok x) p = p
on-ok (Err fault) p = tt
