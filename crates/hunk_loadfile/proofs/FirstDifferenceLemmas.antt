-- What the walks over two load files find.
use Rattle.std.proofs.Common.{◌≡◌, ◌≤◌, ◌<◌, ◌+◌, ◌*◌, ◌-◌, ◌==◌, ◌&&◌, ◌∙◌, Bool, true, false, not, inl, inr, ℕ, min, max, Option, Some, None, List, [], ◌∷◌, length, drop, get_or, take, eq-eqb, refl, sym, ap, subst, zero-add, arith}
use Rattle.std.specs.Option.{is_some, option_map, option_or}
use Rattle.std.proofs.lemmas.Bool.{cases_eq, cases_lt, eqb-true, ne_eqb, not-false, not-true}
use Rattle.std.proofs.lemmas.List.{at_drop_more, get_or-take, get_or_past}
use Rattle.hunk_base.specs.Sites.{AreApart, SiteMap, StandFrom}
use Rattle.hunk_loadfile.specs.Difference.{LiesInItsSize, byte_of, difference_at, first_difference, first_offset, has_same_byte, has_same_target, head_difference, hunk_difference, hunks_difference, inside_difference, is_same_kind, is_same_memory, lowest, target_of, unless, unlike_byte, with_bytes}
use Rattle.hunk_loadfile.specs.declared.difference.Difference.{Difference}
use Rattle.hunk_loadfile.specs.declared.difference.Difference.TheVariants as difference_is
use Rattle.hunk_loadfile.specs.LoadHunk.{FileHunk}
use Rattle.hunk_loadfile.specs.Patching.{byte_or_zero}
use Rattle.hunk_loadfile.proofs.DifferenceLawLemmas.{option_map-none}
use Rattle.hunk_loadfile.proofs.DifferenceLemmas.{IsLowest-unlike_site, unlike_site}
use Rattle.hunk_loadfile.proofs.LowestLemmas.{IsLowest, IsLowest-either, IsLowest-longer, IsLowest-lowest, lower, lowest-in_second, lowest-is}

-- ---- bytes

eqb-sym : (a b : ℕ) → (a == b) ≡ (b == a)
eqb-sym a b = elim (cases_eq a b) [
  | inl same ↦ eq-eqb a b same ∙ sym (eq-eqb b a (sym same))
  | inr apart ↦ ne_eqb a b apart ∙ sym (ne_eqb b a (λ e. apart (sym e)))
]

abbrev pub other_byte : List ℕ → List ℕ → ℕ → Bool
other_byte first second offset = not (has_same_byte first second offset)

abbrev pub nonzero : List ℕ → ℕ → Bool
nonzero content offset = not (byte_or_zero content offset == 0)

-- no byte differs in a front that both have
pub same_front-byte : (first second : List ℕ) (count offset : ℕ) → offset < count → take count first ≡ take count second → other_byte first second offset ≡ false
same_front-byte first second count offset low same =
    let one = get_or-take count first offset 0 low in
    let other = get_or-take count second offset 0 low in
    ap not (eq-eqb (byte_or_zero first offset) (byte_or_zero second offset) (sym one ∙ ap (λ (bytes : List ℕ). get_or bytes offset 0) same ∙ other))

-- the rest of the second content, or of the first one
pub first_byte-in_second : (first second : List ℕ) (before place : Option ℕ) → length first < length second → before ≡ lowest (other_byte first second) 0 (min (length first) (length second)) → is_some before ≡ false
    → place ≡ lowest (nonzero second) (length first) (length second - length first) → place ≡ lowest (other_byte first second) 0 (max (length first) (length second))
first_byte-in_second first second before place shorter is none found =
    let start : min (length first) (length second) ≡ length first = omega arith in
    let end : length second ≡ max (length first) (length second) = omega arith in
    let same : (i : ℕ) → length first ≤ i → nonzero second i ≡ other_byte first second i = λ i past. ap not (eqb-sym (byte_or_zero second i) 0 ∙ ap (λ byte. byte == byte_or_zero second i) (sym (get_or_past first i 0 past))) in
    lowest-in_second (other_byte first second) (nonzero second) (length first) (length second) before place (omega arith) (is ∙ ap (lowest (other_byte first second) 0) start) none same found
    ∙ ap (lowest (other_byte first second) 0) end

pub first_byte-in_first : (first second : List ℕ) (before place : Option ℕ) → length second ≤ length first → before ≡ lowest (other_byte first second) 0 (min (length first) (length second)) → is_some before ≡ false
    → place ≡ lowest (nonzero first) (length second) (length first - length second) → place ≡ lowest (other_byte first second) 0 (max (length first) (length second))
first_byte-in_first first second before place shorter is none found =
    let start : min (length first) (length second) ≡ length second = omega arith in
    let end : length first ≡ max (length first) (length second) = omega arith in
    let same : (i : ℕ) → length second ≤ i → nonzero first i ≡ other_byte first second i = λ i past. ap not (ap (λ byte. byte_or_zero first i == byte) (sym (get_or_past second i 0 past))) in
    lowest-in_second (other_byte first second) (nonzero first) (length second) (length first) before place shorter (is ∙ ap (lowest (other_byte first second) 0) start) none same found
    ∙ ap (lowest (other_byte first second) 0) end

-- the same contents under other names
pub first_byte-same : (first second xs ys : List ℕ) (byte : Option ℕ) → xs ≡ first → ys ≡ second → byte ≡ lowest (other_byte xs ys) 0 (max (length xs) (length ys))
    → byte ≡ lowest (other_byte first second) 0 (max (length first) (length second))
first_byte-same first second xs ys byte one other is =
    is
    ∙ ap (λ bytes. lowest (other_byte bytes ys) 0 (max (length bytes) (length ys))) one
    ∙ ap (λ bytes. lowest (other_byte first bytes) 0 (max (length first) (length bytes))) other

-- ---- sites

abbrev pub other_target : List (ℕ × ℕ) → List (ℕ × ℕ) → ℕ → Bool
other_target first second offset = not (has_same_target first second offset)

pub first_site-walked : (first second : SiteMap ℕ) (left right : List (ℕ × ℕ)) → first.limit ≡ second.limit → AreApart first → AreApart second → unlike_site left right ≡ unlike_site first.entries second.entries
    → unlike_site left right ≡ lowest (other_target first.entries second.entries) 0 first.limit
first_site-walked first second left right limits apart others rest =
    let same : StandFrom 0 first.limit second.entries = subst (λ limit. StandFrom 0 limit second.entries) (sym limits) others in
    rest ∙ lowest-is (other_target first.entries second.entries) 0 first.limit first.limit (unlike_site first.entries second.entries) (zero-add first.limit) (IsLowest-unlike_site 0 0 first.limit first.entries second.entries apart same)

-- the same sites under other names
pub first_site-same : (first second xs ys : SiteMap ℕ) (site : Option ℕ) → xs ≡ first → ys ≡ second → site ≡ lowest (other_target xs.entries ys.entries) 0 xs.limit
    → site ≡ lowest (other_target first.entries second.entries) 0 first.limit
first_site-same first second xs ys site one other is =
    is
    ∙ ap (λ (sites : SiteMap ℕ). lowest (other_target sites.entries ys.entries) 0 sites.limit) one
    ∙ ap (λ (sites : SiteMap ℕ). lowest (other_target first.entries sites.entries) 0 first.limit) other

-- what is left of both, by their first sites
pub walked-first : (left right xs : List (ℕ × ℕ)) (x : ℕ × ℕ) → left ≡ x ∷ xs → right ≡ [] → Some x.0 ≡ unlike_site left right
walked-first left right xs x shown none = rw (shown, none) refl

pub walked-second : (left right ys : List (ℕ × ℕ)) (y : ℕ × ℕ) → left ≡ [] → right ≡ y ∷ ys → Some y.0 ≡ unlike_site left right
walked-second left right ys y none shown = rw (none, shown) refl

pub walked-none : (left right : List (ℕ × ℕ)) → left ≡ [] → right ≡ [] → None ≡ unlike_site left right
walked-none left right none nothing = rw (none, nothing) refl

pub walked-unlike : (left right xs ys : List (ℕ × ℕ)) (x y : ℕ × ℕ) → left ≡ x ∷ xs → right ≡ y ∷ ys → (x.0 == y.0 && x.1 == y.1) ≡ false → Some (min x.0 y.0) ≡ unlike_site left right
walked-unlike left right xs ys x y shown others unequal = rw (shown, others, unequal) refl

pub other_offset : (x y : ℕ × ℕ) → (x.0 ≡ y.0 → ⊥) → (x.0 == y.0 && x.1 == y.1) ≡ false
other_offset x y apart = let no = ne_eqb x.0 y.0 apart in rw no refl

pub other_target-there : (x y : ℕ × ℕ) → x.0 ≡ y.0 → (x.1 ≡ y.1 → ⊥) → (x.0 == y.0 && x.1 == y.1) ≡ false
other_target-there x y same apart = let yes = eq-eqb x.0 y.0 same in let no = ne_eqb x.1 y.1 apart in rw (yes, no) refl

-- ---- both

pub option_map-pair : (byte : ℕ → ℕ) (place : Option ℕ) (u : ℕ × ℕ) → option_map (λ offset. (offset, byte offset)) place ≡ Some u → (place ≡ Some u.0) × (u.1 ≡ byte u.0)
option_map-pair byte None u is = absurd (cc)
option_map-pair byte (Some k) u is =
    let pair : (k, byte k) ≡ u = some-same is in
    (ap (λ (v : ℕ × ℕ). Some v.0) pair, sym (ap (λ (v : ℕ × ℕ). v.1) pair) ∙ ap (λ (v : ℕ × ℕ). byte v.0) pair)
  where
    some-same : {v w : ℕ × ℕ} → Some v ≡ Some w → v ≡ w
    some-same h = cc

-- A hunk is as small as another one of its size.
pub LiesInItsSize-with : (first second : FileHunk) (content : List ℕ) → first.size ≡ second.size → LiesInItsSize first → second.sites.limit ≡ 4 * second.size → length content ≤ 4 * second.size → LiesInItsSize (with_bytes second content)
LiesInItsSize-with first second content size fits limit within = record { content = within; limit = limit; small = omega (arith, fits.small, size) }

module _ (first second : FileHunk) (size : first.size ≡ second.size) (fits : LiesInItsSize first) (fit : LiesInItsSize second) where
  abbrev longest : ℕ
  longest = max (length first.content) (length second.content)

  -- both contents have only zeros from here on
  zeros-behind : (i : ℕ) → longest ≤ i → other_byte first.content second.content i ≡ false
  zeros-behind i past =
      let one : byte_or_zero first.content i ≡ 0 = get_or_past first.content i 0 (omega arith) in
      let other : byte_or_zero second.content i ≡ 0 = get_or_past second.content i 0 (omega arith) in
      rw (one, other) refl

  pub first_offset-is : (byte site : Option ℕ) → byte ≡ lowest (other_byte first.content second.content) 0 longest → site ≡ lowest (other_target first.sites.entries second.sites.entries) 0 first.sites.limit
      → lower byte site ≡ first_offset first second
  first_offset-is byte site bytes sites =
      let end : ℕ = 4 * first.size in
      let bytes_here : IsLowest (other_byte first.content second.content) 0 (0 + longest) byte = subst (IsLowest (other_byte first.content second.content) 0 (0 + longest)) (sym bytes) (IsLowest-lowest (other_byte first.content second.content) longest 0) in
      let sites_here : IsLowest (other_target first.sites.entries second.sites.entries) 0 (0 + first.sites.limit) site = subst (IsLowest (other_target first.sites.entries second.sites.entries) 0 (0 + first.sites.limit)) (sym sites) (IsLowest-lowest (other_target first.sites.entries second.sites.entries) first.sites.limit 0) in
      let limit : 0 + first.sites.limit ≡ end = omega (arith, fits.limit) in
      let within : 0 + longest ≤ end = omega (arith, fits.content, fit.content, size) in
      lowest-is _ 0 end end (lower byte site) (zero-add end)
      (IsLowest-either (has_same_byte first.content second.content) (has_same_target first.sites.entries second.sites.entries) end byte site
      (IsLowest-longer (other_byte first.content second.content) 0 (0 + longest) end byte within (λ i past. zeros-behind i (omega arith)) bytes_here)
      (subst (λ e. IsLowest (other_target first.sites.entries second.sites.entries) 0 e site) limit sites_here))

  -- ---- what differs first

  abbrev place_of_byte : Option ℕ
  place_of_byte = lowest (other_byte first.content second.content) 0 longest

  place-is_lowest : (place : Option ℕ) → place_of_byte ≡ place → IsLowest (other_byte first.content second.content) 0 (0 + longest) place
  place-is_lowest place is = subst (IsLowest (other_byte first.content second.content) 0 (0 + longest)) is (IsLowest-lowest (other_byte first.content second.content) longest 0)

  same-none : (i : ℕ) → place_of_byte ≡ None → has_same_byte first.content second.content i ≡ true
  same-none i none = elim (cases_lt i longest) [
    | inl low ↦ not-false _ (place-is_lowest None none i (omega arith) (omega arith))
    | inr past ↦ not-false _ (zeros-behind i past)
  ]

  same-before : (i k : ℕ) → place_of_byte ≡ Some k → i < k → has_same_byte first.content second.content i ≡ true
  same-before i k is low = not-false _ ((place-is_lowest (Some k) is).3 i (omega arith) low)

  abbrev sites_differ_at : Option ℕ → Type 0
  sites_differ_at site = site ≡ lowest (other_target first.sites.entries second.sites.entries) 0 first.sites.limit

  module _ (number : ℕ) where
    offset-inside : (place offset : Option ℕ) (site : Option ℕ) → place_of_byte ≡ place → sites_differ_at site → lower place site ≡ offset → inside_difference number first second ≡ option_map (difference_at number first second) offset
    offset-inside place offset site is sites least =
        ap (option_map (difference_at number first second)) (sym (first_offset-is place site (sym is) sites) ∙ least)

    pub inside-none : (unlike : Option (ℕ × ℕ)) (site : Option ℕ) → unlike ≡ unlike_byte first.content second.content longest → unlike ≡ None → sites_differ_at site → site ≡ None → None ≡ inside_difference number first second
    inside-none unlike site is none sites nowhere =
        sym (offset-inside None None site (option_map-none _ place_of_byte (sym is ∙ none)) sites nowhere)

    pub inside-byte : (unlike : Option (ℕ × ℕ)) (u : ℕ × ℕ) (site : Option ℕ) → unlike ≡ unlike_byte first.content second.content longest → unlike ≡ Some u → sites_differ_at site → lower (Some u.0) site ≡ Some u.0
        → Some (difference_is.Byte number u.0 (byte_of first u.0) u.1) ≡ inside_difference number first second
    inside-byte unlike u site is some sites least =
        let found = option_map-pair (byte_or_zero second.content) place_of_byte u (sym is ∙ some) in
        let other : has_same_byte first.content second.content u.0 ≡ false = not-true _ (place-is_lowest (Some u.0) found.0).2 in
        let byte : difference_at number first second u.0 ≡ difference_is.Byte number u.0 (byte_of first u.0) (byte_of second u.0) = rw other refl in
        ap (λ b. Some (difference_is.Byte number u.0 (byte_of first u.0) b)) found.1
        ∙ sym (ap Some byte) ∙ sym (offset-inside (Some u.0) (Some u.0) site found.0 sites least)

    inside-site : (place : Option ℕ) (k : ℕ) (site : Option ℕ) → place_of_byte ≡ place → sites_differ_at site → lower place site ≡ Some k → has_same_byte first.content second.content k ≡ true
        → Some (difference_is.Site number k (target_of first k) (target_of second k)) ≡ inside_difference number first second
    inside-site place k site is sites least same =
        let target : difference_at number first second k ≡ difference_is.Site number k (target_of first k) (target_of second k) = rw same refl in
        sym (ap Some target) ∙ sym (offset-inside place (Some k) site is sites least)

    pub inside-site_alone : (unlike : Option (ℕ × ℕ)) (site : Option ℕ) (k : ℕ) → unlike ≡ unlike_byte first.content second.content longest → unlike ≡ None → sites_differ_at site → site ≡ Some k
        → Some (difference_is.Site number k (target_of first k) (target_of second k)) ≡ inside_difference number first second
    inside-site_alone unlike site k is none sites some =
        let nowhere = option_map-none _ place_of_byte (sym is ∙ none) in
        inside-site None k site nowhere sites some (same-none k nowhere)

    pub inside-site_before : (unlike : Option (ℕ × ℕ)) (u : ℕ × ℕ) (site : Option ℕ) (k : ℕ) → unlike ≡ unlike_byte first.content second.content longest → unlike ≡ Some u → sites_differ_at site → site ≡ Some k → k < u.0
        → Some (difference_is.Site number k (target_of first k) (target_of second k)) ≡ inside_difference number first second
    inside-site_before unlike u site k is some sites there low =
        let found = option_map-pair (byte_or_zero second.content) place_of_byte u (sym is ∙ some) in
        let least : min k u.0 ≡ k = omega arith in
        let end : lower (Some u.0) (Some k) ≡ Some k = ap (λ (i : ℕ). Some i) least in
        inside-site (Some u.0) k site found.0 sites (ap (lower (Some u.0)) there ∙ end) (same-before k u.0 found.0 low)

-- ---- hunks

unless-or : (same : Bool) (d : Difference) (next other : Option Difference) → option_or (unless same d next) other ≡ unless same d (option_or next other)
unless-or true d next other = refl
unless-or false d next other = refl

unless-none : (same : Bool) (d : Difference) (next : Option Difference) → is_some (unless same d next) ≡ false → (same ≡ true) × (is_some next ≡ false)
unless-none true d next none = (refl, none)
unless-none false d next none = absurd (cc)

pub first_difference-counted : (first second : List FileHunk) → length first ≡ length second → first_difference first second ≡ hunks_difference 0 first second
first_difference-counted first second counted = let same = eq-eqb (length first) (length second) counted in rw same refl

option_or-some : {X : Type 0} (one other : Option X) → is_some one ≡ true → option_or one other ≡ one
option_or-some None other found = absurd (cc)
option_or-some (Some x) other found = refl

option_or-none : {X : Type 0} (one other : Option X) → is_some one ≡ false → option_or one other ≡ other
option_or-none None other none = refl
option_or-none (Some x) other none = absurd (cc)

pub first_difference-uncounted : (first second : List FileHunk) → (length first ≡ length second → ⊥) → Some (difference_is.HunkCount (length first) (length second)) ≡ first_difference first second
first_difference-uncounted first second apart = let other = ne_eqb (length first) (length second) apart in rw other refl

-- The heads come first, and then what is inside.
module _ (number : ℕ) (first second : FileHunk) (found : Option Difference) (is : found ≡ head_difference number first second) where
  hunk_difference-parts : hunk_difference number first second ≡ option_or found (inside_difference number first second)
  hunk_difference-parts =
      let inside : Option Difference = inside_difference number first second in
      let size : Option Difference = unless (first.size == second.size) (difference_is.Size number first.size second.size) None in
      let memory : Option Difference = unless (is_same_memory first.memory second.memory) (difference_is.Memory number first.memory second.memory) size in
      sym (
      ap (λ difference. option_or difference inside) is
      ∙ unless-or (is_same_kind first.kind second.kind) (difference_is.Kind number first.kind second.kind) memory inside
      ∙ ap (unless (is_same_kind first.kind second.kind) (difference_is.Kind number first.kind second.kind))
      (unless-or (is_same_memory first.memory second.memory) (difference_is.Memory number first.memory second.memory) size inside
      ∙ ap (unless (is_same_memory first.memory second.memory) (difference_is.Memory number first.memory second.memory))
      (unless-or (first.size == second.size) (difference_is.Size number first.size second.size) None inside))
      )

  pub hunk_difference-head : is_some found ≡ true → found ≡ hunk_difference number first second
  hunk_difference-head there = sym (hunk_difference-parts ∙ option_or-some found (inside_difference number first second) there)

  pub hunk_difference-inside : is_some found ≡ false → hunk_difference number first second ≡ inside_difference number first second
  hunk_difference-inside none = hunk_difference-parts ∙ option_or-none found (inside_difference number first second) none

  pub head_difference-size : is_some found ≡ false → first.size ≡ second.size
  head_difference-size none =
      let kinds = unless-none (is_same_kind first.kind second.kind) _ _ (ap is_some (sym is) ∙ none) in
      let memories = unless-none (is_same_memory first.memory second.memory) _ _ kinds.1 in
      eqb-true first.size second.size (unless-none (first.size == second.size) _ None memories.1).0

module _ {X : Type 0} (find : ℕ → FileHunk → FileHunk → Option X) (find_all : ℕ → List FileHunk → List FileHunk → Option X)
    (step : (number : ℕ) (x y : FileHunk) (xs ys : List FileHunk) → find_all number (x ∷ xs) (y ∷ ys) ≡ option_or (find number x y) (find_all (number + 1) xs ys))
    (first second : List FileHunk) (number : ℕ) where
  -- what is left, by its first hunks
  left-step : (x y : FileHunk) → number < length first → number < length second → x ≡ get_or first number x → y ≡ get_or second number y
      → find_all number (drop number first) (drop number second) ≡ option_or (find number x y) (find_all (number + 1) (drop (number + 1) first) (drop (number + 1) second))
  left-step x y low high is others =
      at_drop_more (λ hunks. find_all number hunks (drop number second)) first number x low
      ∙ at_drop_more (λ hunks. find_all number (get_or first number x ∷ drop (number + 1) first) hunks) second number y high
      ∙ step number (get_or first number x) (get_or second number y) (drop (number + 1) first) (drop (number + 1) second)
      ∙ ap (λ hunk. option_or (find number hunk (get_or second number y)) (find_all (number + 1) (drop (number + 1) first) (drop (number + 1) second))) (sym is)
      ∙ ap (λ hunk. option_or (find number x hunk) (find_all (number + 1) (drop (number + 1) first) (drop (number + 1) second))) (sym others)

  pub left-found : (x y : FileHunk) (found : Option X) → number < length first → number < length second → x ≡ get_or first number x → y ≡ get_or second number y → found ≡ find number x y → is_some found ≡ true
      → find_all 0 first second ≡ find_all number (drop number first) (drop number second) → found ≡ find_all 0 first second
  left-found x y found low high is others result there so_far =
      let rest : Option X = find_all (number + 1) (drop (number + 1) first) (drop (number + 1) second) in
      sym (so_far ∙ left-step x y low high is others ∙ ap (λ one. option_or one rest) (sym result) ∙ option_or-some found rest there)

  pub left-more : (x y : FileHunk) (found : Option X) → number < length first → number < length second → x ≡ get_or first number x → y ≡ get_or second number y → found ≡ find number x y → is_some found ≡ false
      → find_all 0 first second ≡ find_all number (drop number first) (drop number second) → find_all 0 first second ≡ find_all (number + 1) (drop (number + 1) first) (drop (number + 1) second)
  left-more x y found low high is others result nothing so_far =
      let rest : Option X = find_all (number + 1) (drop (number + 1) first) (drop (number + 1) second) in
      so_far ∙ left-step x y low high is others ∙ ap (λ one. option_or one rest) (sym result) ∙ option_or-none found rest nothing
