-- A name, after more longwords.
use Rattle.std.proofs.Common.{◌≡◌, ℕ, ◌+◌, ◌<◌, ◌≤◌, ◌==◌, List, ◌∷◌, ◌++◌, length, sym, ap, ◌∙◌, arith, nat_lt, inl, inr, true, false}
use Rattle.std.proofs.lemmas.Bool.{ltb-true, ltb-false}
use Rattle.std.proofs.lemmas.Grind.{flat_map-append}
use Rattle.std.proofs.lemmas.List.{length-append}
use Rattle.std.specs.List.{before_first}
use Rattle.byteorder.specs.Endian.{big_bytes}
use Rattle.hunk_base.specs.Name.{bytes_of, name_of}
use Rattle.hunk_base.specs.OpenName.{Opens}
use Rattle.hunk_base.specs.declared.name.open_name.OpenName.{OpenName}
use Rattle.hunk_base.proofs.NameLemmas.{name_of-names, before_zero-short, before_zero-long}

bytes_of-more : (ws more : List ℕ) → bytes_of (ws ++ more) ≡ bytes_of ws ++ bytes_of more
bytes_of-more ws more = flat_map-append (λ w. big_bytes 4 w) ws more

length-bytes_of-more : (ws more : List ℕ) → length (bytes_of (ws ++ more)) ≡ length (bytes_of ws) + length (bytes_of more)
length-bytes_of-more ws more = ap length (bytes_of-more ws more) ∙ length-append (bytes_of ws) (bytes_of more)

-- nothing after the first zero byte belongs to the name
name_of-ended : (ws more : List ℕ) → length (name_of ws) < length (bytes_of ws) → name_of (ws ++ more) ≡ name_of ws
name_of-ended ws more short = ap (λ t. before_first (λ b. b == 0) t) (bytes_of-more ws more) ∙ before_zero-short (bytes_of ws) (bytes_of more) short

name_of-more : (ws more : List ℕ) → length (bytes_of ws) ≤ length (name_of ws) → name_of (ws ++ more) ≡ name_of ws ++ name_of more
name_of-more ws more long = ap (λ t. before_first (λ b. b == 0) t) (bytes_of-more ws more) ∙ before_zero-long (bytes_of ws) (bytes_of more) long

name_of-within : (ws : List ℕ) → length (name_of ws) ≤ length (bytes_of ws)
name_of-within ws = elim (name_of-names ws).bytes [
  | inl e ↦ let same : length (bytes_of ws) ≡ length (name_of ws) = ap length e in omega arith
  | inr r ↦ let longer : length (bytes_of ws) ≡ length (name_of ws) + length (0 ∷ r.0) = ap length r.1 ∙ length-append (name_of ws) (0 ∷ r.0) in omega arith
]

-- An open name that has ended takes nothing more.
pub Opens-ended : {A : Type 0} (n : OpenName A) (ws more : List ℕ) → n.ended ≡ true → Opens n ws → Opens n (ws ++ more)
Opens-ended n ws more is_ended opens =
    let same : name_of (ws ++ more) ≡ name_of ws = name_of-ended ws more (opens.ended is_ended) in
    let longer = length-bytes_of-more ws more in
    let short : length (name_of ws) < length (bytes_of ws) = opens.ended is_ended in
    record {
      name = opens.name ∙ sym same;
      ended = λ e. rw same (omega arith);
      goes_on = λ e. let wrong : true ≡ false = sym is_ended ∙ e in cc;
    }

-- One that has not takes the bytes of the longwords before their first zero byte.
pub Opens-more : {A : Type 0} (n m : OpenName A) (ws more bytes front : List ℕ) → n.ended ≡ false → Opens n ws → bytes_of more ≡ bytes → front ≡ before_first (λ b. b == 0) bytes
    → m.bytes ≡ n.bytes ++ front → m.ended ≡ nat_lt (length front) (length bytes) → Opens m (ws ++ more)
Opens-more n m ws more bytes front goes_on opens are cut items ends =
    let whole : length (bytes_of ws) ≤ length (name_of ws) = opens.goes_on goes_on in
    let within : length (name_of ws) ≤ length (bytes_of ws) = name_of-within ws in
    let named : name_of more ≡ front = ap (λ t. before_first (λ b. b == 0) t) are ∙ sym cut in
    let next : name_of (ws ++ more) ≡ name_of ws ++ front = name_of-more ws more whole ∙ ap (λ t. name_of ws ++ t) named in
    let count : length (name_of (ws ++ more)) ≡ length (name_of ws) + length front = ap length next ∙ length-append (name_of ws) front in
    let longer : length (bytes_of (ws ++ more)) ≡ length (bytes_of ws) + length bytes = length-bytes_of-more ws more ∙ ap (λ t. length (bytes_of ws) + length t) are in
    record {
      name = items ∙ ap (λ t. t ++ front) opens.name ∙ sym next;
      ended = λ e. let few : length front < length bytes = ltb-true (length front) (length bytes) (sym ends ∙ e) in omega arith;
      goes_on = λ e. let many : length bytes ≤ length front = ltb-false (length front) (length bytes) (sym ends ∙ e) in omega arith;
    }
