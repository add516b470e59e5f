-- The names in a list, one after another.
use Rattle.std.proofs.Common.{◌≡◌, ◌∙◌, ◌++◌, ◌<◌, ◌-◌, ◌==◌, ℕ, Bool, IfSome, true, false, cond, List, [], ◌∷◌, length, get_or, take, Option, Some, refl, sym, ap, subst, arith, append_assoc, append-nil, eq-eqb, eqb-true, lt-ltb, ltb, ne_eqb, ◌&&◌, ◌⊎◌, inl, inr, true≢false}
use Rattle.std.proofs.lemmas.List.{get_or_read}
use Rattle.std.specs.Io.BufRead.{DropsThrough, drop_through, first_piece, strip_last, take_through}
use Rattle.std.specs.List.{filter, onto_first, slice_split}
use Rattle.hunk_addresses.specs.BasesFile.{has_bytes}
use Rattle.hunk_store.specs.FileList.{end_byte, names_in}
use Rattle.hunk_store.specs.NameReader.{AreAllNames, AreFirstNames, HasNoName, TakesNames}
use Rattle.hunk_store.specs.declared.file_list.NameEnd.{NameEnd}

-- ---- the first name

by_test : {G : Type 0} (b : Bool) → (b ≡ true → G) → (b ≡ false → G) → G
by_test true holds fails = holds refl
by_test false holds fails = fails refl

-- some bytes without their last one, if that ends a name
strip_last-some : (end byte : ℕ) (rest : List ℕ) → strip_last end (byte ∷ rest) ≡ cond (get_or (byte ∷ rest) (length rest) 0 == end) (take (length rest) (byte ∷ rest)) (byte ∷ rest)
strip_last-some end byte rest =
    let bytes = byte ∷ rest in
    let some = lt-ltb 0 (length bytes) (omega arith) in
    let last : length bytes - 1 ≡ length rest = omega arith in
    ap (λ is_some. cond (is_some && (get_or bytes (length bytes - 1) 0 == end)) (take (length bytes - 1) bytes) bytes) some
    ∙ ap (λ n. cond (get_or bytes n 0 == end) (take n bytes) bytes) last

cond-cons : (byte : ℕ) (test : Bool) (some other : List ℕ) → cond test (byte ∷ some) (byte ∷ other) ≡ byte ∷ cond test some other
cond-cons byte true some other = refl
cond-cons byte false some other = refl

-- a byte that ends no name stays in front of one without its end
strip_last-cons : (end byte : ℕ) (rest : List ℕ) → (byte == end) ≡ false → strip_last end (byte ∷ rest) ≡ byte ∷ strip_last end rest
strip_last-cons end byte [] other = rw other refl
strip_last-cons end byte (next ∷ rest) other =
    strip_last-some end byte (next ∷ rest)
    ∙ cond-cons byte (get_or (next ∷ rest) (length rest) 0 == end) (take (length rest) (next ∷ rest)) (next ∷ rest)
    ∙ sym (ap (λ piece. byte ∷ piece) (strip_last-some end next rest))

-- the parts of some bytes: the first one, and others, of which those that are not empty are those of the rest
pub record FirstPart (end : ℕ) (bytes : List ℕ) : Type 0 where
  pub others : List (List ℕ)
  pub split : slice_split (λ byte. byte == end) bytes ≡ first_piece end bytes ∷ others
  pub same : filter has_bytes others ≡ filter has_bytes (slice_split (λ byte. byte == end) (drop_through end bytes))

first_part : (end : ℕ) (bytes : List ℕ) → FirstPart end bytes
first_part end [] = record { others = []; split = refl; same = refl }
first_part end (byte ∷ bytes) =
    by_test (byte == end)
    (λ e. record { others = slice_split (λ byte. byte == end) bytes; split = rw e (rw e refl); same = rw e refl })
    (λ e. let rest = first_part end bytes in record {
      others = rest.others;
      split = rw e (ap (onto_first byte) rest.split ∙ ap (λ part. part ∷ rest.others) (sym (strip_last-cons end byte (take_through end bytes) e)));
      same = rw e rest.same;
    })

-- a first part that is not empty is the first name, and one that is empty is none
pub names-first : (end : NameEnd) (bytes : List ℕ)
    → names_in end bytes ≡ filter has_bytes (first_piece (end_byte end) bytes ∷ []) ++ names_in end (drop_through (end_byte end) bytes)
names-first end bytes =
    let part = first_part (end_byte end) bytes in
    ap (filter has_bytes) part.split ∙ go (first_piece (end_byte end) bytes) part.others part.same
  where
    go : (first : List ℕ) (others : List (List ℕ)) {rest : List (List ℕ)} → filter has_bytes others ≡ rest
        → filter has_bytes (first ∷ others) ≡ filter has_bytes (first ∷ []) ++ rest
    go [] others same = same
    go (byte ∷ first) others same = ap (λ names. (byte ∷ first) ∷ names) same

-- ---- one name after another

-- the names that were taken, and then others
pub takes-more : (end : NameEnd) (old between new : Option (List ℕ)) (names more : List (List ℕ))
    → TakesNames end old between names → TakesNames end between new more → TakesNames end old new (names ++ more)
takes-more end old between new names more front next bytes is =
    let first = front bytes is in
    let second = next first.0 first.1 in
    (second.0, second.1, first.2 ∙ ap (λ rest. names ++ rest) second.2 ∙ sym (append_assoc names more (names_in end second.0)))

-- the names that were taken are the first ones
pub takes-first : (end : NameEnd) (old new : Option (List ℕ)) (names : List (List ℕ)) → TakesNames end old new names → AreFirstNames end old names
takes-first end old new names taken bytes is = let found = taken bytes is in (names_in end found.0, found.2)

-- and all, if no name is left
pub takes-all : (end : NameEnd) (old new : Option (List ℕ)) (names : List (List ℕ)) → TakesNames end old new names → HasNoName end new → AreAllNames end old names
takes-all end old new names taken none bytes is =
    let found = taken bytes is in
    found.2 ∙ ap (λ rest. names ++ rest) (none found.0 found.1) ∙ append-nil names

-- no name was taken yet
pub takes-none : (end : NameEnd) (old : Option (List ℕ)) → TakesNames end old old []
takes-none end old bytes is = (bytes, is, refl)

-- ---- one piece of the list

-- the last byte that was read ends the piece, and is no part of it; or it does not, and the list ends with the piece
abbrev pub IsPieceOf : (byte : ℕ) (items : List ℕ) (count last : ℕ) (piece : List ℕ) → Type 0
IsPieceOf byte items count last piece = ((last ≡ byte) × (piece ≡ take (count - 1) items)) ⊎ ((last ≡ byte → ⊥) × (piece ≡ items))

strip-piece : (byte : ℕ) (items : List ℕ) (count last : ℕ) (piece : List ℕ) → length items ≡ count → 0 < count → last ≡ get_or items (count - 1) last → IsPieceOf byte items count last piece → piece ≡ strip_last byte items
strip-piece byte items count last piece same some last_is = go
  where
    is_some : ltb 0 (length items) ≡ true
    is_some = lt-ltb 0 (length items) (omega (arith, same, some))

    at_end : get_or items (length items - 1) 0 ≡ last
    at_end = ap (λ n. get_or items (n - 1) 0) same ∙ sym (get_or_read items (count - 1) last (omega (arith, same, some)) last_is 0)

    go : IsPieceOf byte items count last piece → piece ≡ strip_last byte items
    go (inl ended) = rw is_some (rw (eq-eqb (get_or items (length items - 1) 0) byte (at_end ∙ ended.0)) (ended.1 ∙ ap (λ n. take (n - 1) items) (sym same)))
    go (inr unended) = rw is_some (rw (ne_eqb (get_or items (length items - 1) 0) byte (λ ends. unended.0 (sym at_end ∙ ends))) unended.1)

-- a piece that was read is the next name, unless it is empty
pub takes-piece : (end : NameEnd) (byte : ℕ) (old new : Option (List ℕ)) (before items piece : List ℕ) (count last : ℕ) → byte ≡ end_byte end → before ≡ []
    → IfSome old (λ bytes. items ≡ before ++ take_through byte bytes) → DropsThrough old new byte → length items ≡ count → 0 < count → last ≡ get_or items (count - 1) last → IsPieceOf byte items count last piece
    → TakesNames end old new (filter has_bytes (piece ∷ []))
takes-piece end byte old new before items piece count last is_end none read drops same some last_is is_piece bytes is =
    let taken : items ≡ take_through byte bytes = subst (λ o. IfSome o (λ bytes. items ≡ before ++ take_through byte bytes)) is read ∙ ap (λ front. front ++ take_through byte bytes) none in
    let first : piece ≡ first_piece (end_byte end) bytes = strip-piece byte items count last piece same some last_is is_piece ∙ ap (strip_last byte) taken ∙ ap (λ b. first_piece b bytes) is_end in
    let rest = drop_through (end_byte end) bytes in
    let left : new ≡ Some rest = subst (λ o. DropsThrough o new byte) is drops ∙ ap (λ b. Some (drop_through b bytes)) is_end in
    (rest, left, names-first end bytes ∙ ap (λ p. filter has_bytes (p ∷ []) ++ names_in end rest) (sym first))

-- a piece with bytes is a name, and an empty one is none
pub name-of_piece : (piece : List ℕ) → (length piece == 0) ≡ false → filter has_bytes (piece ∷ []) ≡ piece ∷ []
name-of_piece [] some = absurd (true≢false some)
name-of_piece (byte ∷ piece) some = refl

pub no_name-of_piece : (piece : List ℕ) → (length piece == 0) ≡ true → filter has_bytes (piece ∷ []) ≡ []
no_name-of_piece [] none = refl
no_name-of_piece (byte ∷ piece) none = absurd (omega (arith, eqb-true (length (byte ∷ piece)) 0 none))
