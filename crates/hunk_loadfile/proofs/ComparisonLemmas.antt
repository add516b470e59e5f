-- What is found in the hunks of two files, after one more hunk of each.
use Rattle.std.proofs.Common.{◌≡◌, ◌<◌, ◌+◌, ◌∙◌, true, false, ℕ, zero, suc, Option, Some, None, List, [], ◌∷◌, ◌++◌, IfSome, length, length-append, slice_get, refl, sym, ap, subst, arith}
use Rattle.std.specs.Option.{is_some, option_map, option_or}
use Rattle.hunk_loadfile.specs.Comparison.{HasFound, differing_symbol, hunk_of, symbol_in, symbol_there}
use Rattle.hunk_loadfile.specs.Difference.{hunk_difference, hunks_difference, with_bytes}
use Rattle.hunk_loadfile.specs.InfoDifference.{first_unshared, hunk_info_difference, hunks_info_difference, is_same_debug, is_same_symbol}
use Rattle.hunk_loadfile.specs.LoadHunk.{FileHunk}
use Rattle.hunk_loadfile.specs.declared.comparison.Comparison.{Comparison}
use Rattle.hunk_loadfile.specs.declared.difference.Difference.{Difference}
use Rattle.hunk_loadfile.specs.declared.info_difference.InfoDifference.{InfoDifference}
use Rattle.hunk_loadfile.specs.declared.info_difference.InfoDifference.TheVariants.{Symbol, Debug}

-- ---- one more hunk

or-none : {X : Type 0} (one : Option X) → option_or one None ≡ one
or-none None = refl
or-none (Some x) = refl

or-assoc : {X : Type 0} (one other third : Option X) → option_or one (option_or other third) ≡ option_or (option_or one other) third
or-assoc None other third = refl
or-assoc (Some x) other third = refl

some-same : {X : Type 0} (x y : X) → Some x ≡ Some y → x ≡ y
some-same x y h = cc

module _ {X : Type 0} (find : ℕ → FileHunk → FileHunk → Option X) (find_all : ℕ → List FileHunk → List FileHunk → Option X)
    (step : (number : ℕ) (x y : FileHunk) (xs ys : List FileHunk) → find_all number (x ∷ xs) (y ∷ ys) ≡ option_or (find number x y) (find_all (number + 1) xs ys))
    (no_first : (number : ℕ) (ys : List FileHunk) → find_all number [] ys ≡ None) (no_second : (number : ℕ) (xs : List FileHunk) → find_all number xs [] ≡ None) where
  all-more : (number : ℕ) (firsts seconds : List FileHunk) (first second : FileHunk) → slice_get firsts (length seconds) ≡ Some first
      → find_all number firsts (seconds ++ second ∷ []) ≡ option_or (find_all number firsts seconds) (find (number + length seconds) first second)
  all-more number [] [] first second is = absurd (cc)
  all-more number [] (s ∷ seconds) first second is = absurd (cc)
  all-more number (f ∷ firsts) [] first second is =
      let at : number ≡ number + 0 = omega arith in
      step number f second firsts []
      ∙ ap (option_or (find number f second)) (no_second (number + 1) firsts)
      ∙ or-none (find number f second)
      ∙ ap (λ hunk. find number hunk second) (some-same f first is)
      ∙ ap (λ n. find n first second) at
      ∙ sym (ap (λ before. option_or before (find (number + 0) first second)) (no_second number (f ∷ firsts)))
  all-more number (f ∷ firsts) (s ∷ seconds) first second is =
      let at : number + 1 + length seconds ≡ number + length (s ∷ seconds) = omega arith in
      step number f s firsts (seconds ++ second ∷ [])
      ∙ ap (option_or (find number f s)) (all-more (number + 1) firsts seconds first second is)
      ∙ or-assoc (find number f s) (find_all (number + 1) firsts seconds) (find (number + 1 + length seconds) first second)
      ∙ ap (λ n. option_or (option_or (find number f s) (find_all (number + 1) firsts seconds)) (find n first second)) at
      ∙ sym (ap (λ before. option_or before (find (number + length (s ∷ seconds)) first second)) (step number f s firsts seconds))

  -- no hunk beside it
  pub all-past : (number : ℕ) (firsts seconds : List FileHunk) (second : FileHunk) → slice_get firsts (length seconds) ≡ None → find_all number firsts (seconds ++ second ∷ []) ≡ find_all number firsts seconds
  all-past number [] seconds second is = no_first number (seconds ++ second ∷ []) ∙ sym (no_first number seconds)
  all-past number (f ∷ firsts) [] second is = absurd (cc)
  all-past number (f ∷ firsts) (s ∷ seconds) second is =
      step number f s firsts (seconds ++ second ∷ []) ∙ ap (option_or (find number f s)) (all-past (number + 1) firsts seconds second is) ∙ sym (step number f s firsts seconds)

  module _ (firsts seconds : List FileHunk) (first second : FileHunk) (number : ℕ) (at : number ≡ length seconds) (is : slice_get firsts number ≡ Some first) where
    all-next : find_all 0 firsts (seconds ++ second ∷ []) ≡ option_or (find_all 0 firsts seconds) (find number first second)
    all-next =
        let place : 0 + length seconds ≡ number = omega arith in
        all-more 0 firsts seconds first second (subst (λ n. slice_get firsts n ≡ Some first) at is)
        ∙ ap (λ n. option_or (find_all 0 firsts seconds) (find n first second)) place

    -- A difference that was found before is still the first one.
    pub all-kept : (found : Option X) → found ≡ find_all 0 firsts seconds → is_some found ≡ true → found ≡ find_all 0 firsts (seconds ++ second ∷ [])
    all-kept None so_far there = absurd (cc)
    all-kept (Some x) so_far there = sym (all-next ∙ ap (λ before. option_or before (find number first second)) (sym so_far))

    -- If there was none, it is that of the new hunks.
    pub all-new : (found : Option X) → found ≡ find_all 0 firsts seconds → is_some found ≡ false → find number first second ≡ find_all 0 firsts (seconds ++ second ∷ [])
    all-new (Some x) so_far none = absurd (cc)
    all-new None so_far none = sym (all-next ∙ ap (λ before. option_or before (find number first second)) (sym so_far))

-- ---- none

pub hunks_difference-no_first : (number : ℕ) (ys : List FileHunk) → hunks_difference number [] ys ≡ None
hunks_difference-no_first number ys = refl

pub hunks_difference-no_second : (number : ℕ) (xs : List FileHunk) → hunks_difference number xs [] ≡ None
hunks_difference-no_second number [] = refl
hunks_difference-no_second number (x ∷ xs) = refl

pub hunks_info_difference-no_second : (number : ℕ) (xs : List FileHunk) → hunks_info_difference number xs [] ≡ None
hunks_info_difference-no_second number [] = refl
hunks_info_difference-no_second number (x ∷ xs) = refl

-- ---- the symbol that differs

get-front : {X : Type 0} (xs ys : List X) (k : ℕ) → k < length xs → slice_get (xs ++ ys) k ≡ slice_get xs k
get-front [] ys k low = absurd (omega arith)
get-front (x ∷ xs) ys zero low = refl
get-front (x ∷ xs) ys (suc k) low = get-front xs ys k (omega arith)

get-last : {X : Type 0} (xs : List X) (y : X) → slice_get (xs ++ y ∷ []) (length xs) ≡ Some y
get-last [] y = refl
get-last (x ∷ xs) y = get-last xs y

-- more hunks change nothing of it
differing_symbol-more : (seconds : List FileHunk) (second : FileHunk) (info : Option InfoDifference) → IfSome info (λ difference. hunk_of difference < length seconds) → differing_symbol (seconds ++ second ∷ []) info ≡ differing_symbol seconds info
differing_symbol-more seconds second None within = refl
differing_symbol-more seconds second (Some d) within = ap (λ hunk. symbol_in hunk (Some d)) (get-front seconds (second ∷ []) (hunk_of d) within)

-- that of the last hunk
there-same : (second : FileHunk) (content : List ℕ) (info : Option InfoDifference) → symbol_there second info ≡ symbol_there (with_bytes second content) info
there-same second content None = refl
there-same second content (Some (Symbol hunk index)) = refl
there-same second content (Some (Debug hunk index)) = refl

differing_symbol-last : (seconds : List FileHunk) (second : FileHunk) (info : Option InfoDifference) → IfSome info (λ difference. hunk_of difference ≡ length seconds) → symbol_there second info ≡ differing_symbol (seconds ++ second ∷ []) info
differing_symbol-last seconds second None at = refl
differing_symbol-last seconds second (Some d) at =
    sym (ap (λ (k : ℕ). symbol_in (slice_get (seconds ++ second ∷ []) k) (Some d)) at ∙ ap (λ hunk. symbol_in hunk (Some d)) (get-last seconds second))

hunk_of-found : (number : ℕ) (symbol debug : Option ℕ) → IfSome (option_or (option_map (Symbol number) symbol) (option_map (Debug number) debug)) (λ difference. hunk_of difference ≡ number)
hunk_of-found number (Some index) debug = refl
hunk_of-found number None (Some index) = refl
hunk_of-found number None None = tt

-- ---- what is found

within-more : (seconds : List FileHunk) (second : FileHunk) (info : Option InfoDifference) → IfSome info (λ difference. hunk_of difference < length seconds) → IfSome info (λ difference. hunk_of difference < length (seconds ++ second ∷ []))
within-more seconds second None within = tt
within-more seconds second (Some d) within = let longer = length-append seconds (second ∷ []) in omega (arith, within)

within-last : (seconds : List FileHunk) (second : FileHunk) (info : Option InfoDifference) → IfSome info (λ difference. hunk_of difference ≡ length seconds) → IfSome info (λ difference. hunk_of difference < length (seconds ++ second ∷ []))
within-last seconds second None at = tt
within-last seconds second (Some d) at = let longer = length-append seconds (second ∷ []) in omega (arith, at)

module _ {A : Type 0} (old : Comparison A) (firsts seconds : List FileHunk) (first second : FileHunk) (content : List ℕ) (number : ℕ)
    (at : number ≡ length seconds) (is : slice_get firsts number ≡ Some first) (h : HasFound old firsts seconds) where
  abbrev next : FileHunk
  next = with_bytes second content

  pub difference-kept : is_some old.difference ≡ true → old.difference ≡ hunks_difference 0 firsts (seconds ++ next ∷ [])
  difference-kept there =
      all-kept hunk_difference hunks_difference (λ number x y xs ys. refl) hunks_difference-no_first hunks_difference-no_second firsts seconds first next number at is old.difference h.difference there

  pub difference-new : (found : Option Difference) → is_some old.difference ≡ false → found ≡ hunk_difference number first next → found ≡ hunks_difference 0 firsts (seconds ++ next ∷ [])
  difference-new found none new =
      new ∙ all-new hunk_difference hunks_difference (λ number x y xs ys. refl) hunks_difference-no_first hunks_difference-no_second firsts seconds first next number at is old.difference h.difference none

  pub HasFound-kept : (found : Option Difference) (info : Option InfoDifference) (symbol : Option (List ℕ × ℕ)) → found ≡ hunks_difference 0 firsts (seconds ++ next ∷ []) → info ≡ old.info_difference → symbol ≡ old.symbol
      → is_some old.info_difference ≡ true → HasFound {A = A} (record { difference = found; info_difference = info; symbol = symbol }) firsts (seconds ++ next ∷ [])
  HasFound-kept found info symbol difference same kept there = record {
    difference = difference;
    info_difference = same ∙ all-kept hunk_info_difference hunks_info_difference (λ number x y xs ys. refl) (λ number ys. refl) hunks_info_difference-no_second firsts seconds first next number at is old.info_difference h.info_difference there;
    within = subst (λ (i : Option InfoDifference). IfSome i (λ difference. hunk_of difference < length (seconds ++ next ∷ []))) (sym same) (within-more seconds next old.info_difference h.within);
    symbol = kept ∙ h.symbol ∙ sym (differing_symbol-more seconds next old.info_difference h.within) ∙ ap (differing_symbol (seconds ++ next ∷ [])) (sym same);
  }

  pub HasFound-new : (found : Option Difference) (info : Option InfoDifference) (symbol : Option (List ℕ × ℕ)) → found ≡ hunks_difference 0 firsts (seconds ++ next ∷ []) → is_some old.info_difference ≡ false
      → info ≡ hunk_info_difference number first second → symbol ≡ symbol_there second info → HasFound {A = A} (record { difference = found; info_difference = info; symbol = symbol }) firsts (seconds ++ next ∷ [])
  HasFound-new found info symbol difference none new told =
      let number_is : IfSome info (λ difference. hunk_of difference ≡ length seconds) =
      subst (λ (i : Option InfoDifference). IfSome i (λ difference. hunk_of difference ≡ length seconds)) (sym new)
      (subst (λ (n : ℕ). IfSome (hunk_info_difference number first second) (λ difference. hunk_of difference ≡ n)) at
      (hunk_of-found number (first_unshared is_same_symbol first.symbols second.symbols) (first_unshared is_same_debug first.debugs second.debugs))) in
      record {
        difference = difference;
        info_difference =
            new ∙ all-new hunk_info_difference hunks_info_difference (λ number x y xs ys. refl) (λ number ys. refl) hunks_info_difference-no_second firsts seconds first next number at is old.info_difference h.info_difference none;
        within = within-last seconds next info number_is;
        symbol = told ∙ there-same second content info ∙ differing_symbol-last seconds next info number_is;
      }

pub HasFound-past : {A : Type 0} (found : Comparison A) (firsts seconds : List FileHunk) (second : FileHunk) → slice_get firsts (length seconds) ≡ None → HasFound found firsts seconds → HasFound found firsts (seconds ++ second ∷ [])
HasFound-past found firsts seconds second past h = record {
  difference = h.difference ∙ sym (all-past hunk_difference hunks_difference (λ number x y xs ys. refl) hunks_difference-no_first hunks_difference-no_second 0 firsts seconds second past);
  info_difference = h.info_difference ∙ sym (all-past hunk_info_difference hunks_info_difference (λ number x y xs ys. refl) (λ number ys. refl) hunks_info_difference-no_second 0 firsts seconds second past);
  within = within-more seconds second found.info_difference h.within;
  symbol = h.symbol ∙ sym (differing_symbol-more seconds second found.info_difference h.within);
}

pub HasFound-none : {A : Type 0} (firsts : List FileHunk) → HasFound {A = A} (record { difference = None; info_difference = None; symbol = None }) firsts []
HasFound-none firsts = record { difference = sym (hunks_difference-no_second 0 firsts); info_difference = sym (hunks_info_difference-no_second 0 firsts); within = tt; symbol = refl }
