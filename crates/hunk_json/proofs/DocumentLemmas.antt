-- Documents, element by element and member by member.
use Rattle.std.proofs.Common.{◌≡◌, ◌∙◌, ℕ, List, [], ◌∷◌, ◌++◌, Bool, true, false, ◌||◌, Option, IsUtf8, map, ap, refl, subst, sym, append-nil, append_assoc}
use Rattle.std.proofs.lemmas.Str.{IsUtf8-append}
use Rattle.json.specs.Print.{quoted}
use Rattle.serde_json.specs.Data.{Data, null, boolean, number, string, array, object, Members, no_members, member}
use Rattle.serde_json.specs.View.{items_of}
use Rattle.serde_json.specs.Written.{comma_if, compact_text, items_text, members_text}
use Rattle.hunk_base.specs.Text.{Puts}
use Rattle.hunk_base.specs.declared.text.Text.{Text}
use Rattle.hunk_base.proofs.TextLemmas.{◌⨾◌, Puts-as}
use Rattle.hunk_json.specs.Document.{document}
use Rattle.hunk_json.specs.Escapes.{with_escapes}
use Rattle.hunk_json.specs.FileJson.{listed}
use Rattle.hunk_json.specs.declared.form.JsonForm.{JsonForm}
use Rattle.hunk_json.proofs.EscapesLemmas.{IsUtf8-plain, are_plain, plain-then, with_escapes-append, with_escapes-plain}

pub comma-plain : (later : Bool) → are_plain (comma_if later) ≡ true
comma-plain true = refl
comma-plain false = refl

-- ---- arrays

-- the elements behind the opening bracket; some stand before them, or none
abbrev pub elements : {T : Type 0} → (T → Data) → (later : Bool) → List T → List ℕ
elements value later [] = []
elements value later (thing ∷ things) = comma_if later ++ (compact_text (value thing) ++ elements value true things)

abbrev pub has_some : {T : Type 0} → List T → Bool
has_some [] = false
has_some (thing ∷ things) = true

elements-more : {T : Type 0} (value : T → Data) (later : Bool) (done : List T) (thing : T)
    → elements value later (done ++ thing ∷ []) ≡ elements value later done ++ (comma_if (later || has_some done) ++ compact_text (value thing))
elements-more value true [] thing = ap (λ last. 44 ∷ last) (append-nil (compact_text (value thing)))
elements-more value false [] thing = append-nil (compact_text (value thing))
elements-more value true (first ∷ done) thing =
    ap (λ rest. 44 ∷ (compact_text (value first) ++ rest)) (elements-more value true done thing)
    ∙ ap (λ rest. 44 ∷ rest) (sym (append_assoc (compact_text (value first)) (elements value true done) (44 ∷ compact_text (value thing))))
elements-more value false (first ∷ done) thing =
    ap (λ rest. compact_text (value first) ++ rest) (elements-more value true done thing)
    ∙ sym (append_assoc (compact_text (value first)) (elements value true done) (44 ∷ compact_text (value thing)))

pub items-elements : {T : Type 0} (value : T → Data) (later : Bool) (things : List T) → items_text later (items_of (map value things)) ≡ elements value later things ++ 93 ∷ []
items-elements value later [] = refl
items-elements value later (thing ∷ things) =
    ap (λ rest. comma_if later ++ (compact_text (value thing) ++ rest)) (items-elements value true things)
    ∙ ap (λ rest. comma_if later ++ rest) (sym (append_assoc (compact_text (value thing)) (elements value true things) (93 ∷ [])))
    ∙ sym (append_assoc (comma_if later) (compact_text (value thing) ++ elements value true things) (93 ∷ []))

pub elements-utf8 : {T : Type 0} (value : T → Data) (later : Bool) (things : List T) → ((thing : T) → IsUtf8 (compact_text (value thing))) → IsUtf8 (elements value later things)
elements-utf8 value later [] each = IsUtf8-plain [] refl
elements-utf8 value later (thing ∷ things) each =
    IsUtf8-append (comma_if later) _ (IsUtf8-plain (comma_if later) (comma-plain later)) (IsUtf8-append (compact_text (value thing)) _ (each thing) (elements-utf8 value true things each))

pub listed-utf8 : {T : Type 0} (value : T → Data) (things : List T) → ((thing : T) → IsUtf8 (compact_text (value thing))) → IsUtf8 (compact_text (listed value things))
listed-utf8 value things each =
    IsUtf8-append (91 ∷ []) _ (IsUtf8-plain (91 ∷ []) refl)
    (subst IsUtf8 (sym (items-elements value false things)) (IsUtf8-append (elements value false things) (93 ∷ []) (elements-utf8 value false things each) (IsUtf8-plain (93 ∷ []) refl)))

-- The array was begun, and the elements before those that are left were put. `later` tells whether
-- there are any.
pub record Listing {W T : Type 0} (taken : W → Option (List ℕ)) (failed : W → Bool) (form : JsonForm) (value : T → Data) (old new : Text W) (later : Bool) (left all : List T) : Type 0 where
  pub done : List T
  pub parts : done ++ left ≡ all
  pub told : later ≡ has_some done
  pub utf8 : IsUtf8 (91 ∷ elements value false done)
  pub puts : Puts taken failed old new (with_escapes form (91 ∷ elements value false done))

module _ {W T : Type 0} (taken : W → Option (List ℕ)) (failed : W → Bool) (form : JsonForm) (value : T → Data) where
  -- no elements yet
  pub Listing-none : {old new : Text W} (all : List T) → Puts taken failed old new (91 ∷ []) → Listing taken failed form value old new false all all
  Listing-none {old} {new} all puts =
      record {
        done = [];
        parts = refl;
        told = refl;
        utf8 = IsUtf8-plain (91 ∷ []) refl;
        puts = Puts-as (sym (with_escapes-plain form (91 ∷ []) refl)) puts;
      }

  -- one more
  pub Listing-more : {old between behind new : Text W} {later : Bool} {left all rest : List T} (thing : T)
      → Listing taken failed form value old between later left all → left ≡ thing ∷ rest → IsUtf8 (compact_text (value thing))
      → Puts taken failed between behind (comma_if later) → Puts taken failed behind new (document form (value thing))
      → Listing taken failed form value old new true rest all
  Listing-more {old = old} {new = new} {later = later} {rest = rest} thing so_far next utf8 comma put =
      let front = 91 ∷ elements value false so_far.done in
      let parts : 91 ∷ elements value false (so_far.done ++ thing ∷ []) ≡ front ++ (comma_if later ++ compact_text (value thing)) =
      ap (λ end. 91 ∷ end) (elements-more value false so_far.done thing) ∙ ap (λ b. front ++ (comma_if b ++ compact_text (value thing))) (sym so_far.told) in
      let told = with_escapes-append form front (comma_if later ++ compact_text (value thing)) so_far.utf8 ∙ ap (λ end. with_escapes form front ++ end) (plain-then form (comma_if later) (compact_text (value thing)) (comma-plain later)) in
      record {
        done = so_far.done ++ thing ∷ [];
        parts = append_assoc so_far.done (thing ∷ []) rest ∙ ap (λ end. so_far.done ++ end) (sym next) ∙ so_far.parts;
        told = some-more so_far.done thing;
        utf8 = subst IsUtf8 (sym parts) (IsUtf8-append front _ so_far.utf8 (IsUtf8-append (comma_if later) _ (IsUtf8-plain (comma_if later) (comma-plain later)) utf8));
        puts = Puts-as (sym (ap (with_escapes form) parts ∙ told)) (so_far.puts ⨾ (comma ⨾ put));
      }
    where
      some-more : (things : List T) (x : T) → true ≡ has_some (things ++ x ∷ [])
      some-more [] x = refl
      some-more (first ∷ things) x = refl

  -- all elements, and the closing bracket
  pub Listing-all : {old between new : Text W} {later : Bool} {left all : List T} → Listing taken failed form value old between later left all → left ≡ [] → Puts taken failed between new (93 ∷ [])
      → Puts taken failed old new (document form (listed value all))
  Listing-all {old} {between} {new} {later} {left} {all} so_far none close =
      let front = 91 ∷ elements value false so_far.done in
      let whole : so_far.done ≡ all = sym (append-nil so_far.done) ∙ ap (λ end. so_far.done ++ end) (sym none) ∙ so_far.parts in
      let told : with_escapes form (front ++ 93 ∷ []) ≡ with_escapes form front ++ 93 ∷ [] =
      with_escapes-append form front (93 ∷ []) so_far.utf8 ∙ ap (λ end. with_escapes form front ++ end) (with_escapes-plain form (93 ∷ []) refl) in
      Puts-as (sym told ∙ ap (λ things. with_escapes form (91 ∷ (elements value false things ++ 93 ∷ []))) whole ∙ ap (λ end. with_escapes form (91 ∷ end)) (sym (items-elements value false all)))
      (so_far.puts ⨾ close)

-- ---- objects

-- the members of an object behind the brace, with the closing brace
abbrev pub members_told : JsonForm → (later : Bool) → Members → List ℕ
members_told form later no_members = 125 ∷ []
members_told form later (member key value members) = comma_if later ++ (quoted key ++ 58 ∷ (document form value ++ members_told form true members))

-- the text of a value; if it is an object, member by member
abbrev pub told : JsonForm → Data → List ℕ
told form (object members) = 123 ∷ members_told form false members
told form null = document form null
told form (boolean b) = document form (boolean b)
told form (number n) = document form (number n)
told form (string s) = document form (string s)
told form (array items) = document form (array items)

-- keys that no form escapes, and values whose texts are UTF-8
abbrev pub AreTold : Members → Type 0
AreTold no_members = Unit {0}
AreTold (member key value members) = (are_plain (quoted key) ≡ true) × (IsUtf8 (compact_text value) × AreTold members)

abbrev pub IsTold : Data → Type 0
IsTold (object members) = AreTold members
IsTold null = IsUtf8 (compact_text null)
IsTold (boolean b) = IsUtf8 (compact_text (boolean b))
IsTold (number n) = IsUtf8 (compact_text (number n))
IsTold (string s) = IsUtf8 (compact_text (string s))
IsTold (array items) = IsUtf8 (compact_text (array items))

members-utf8 : (later : Bool) (members : Members) → AreTold members → IsUtf8 (members_text later members)
members-utf8 later no_members is = IsUtf8-plain (125 ∷ []) refl
members-utf8 later (member key value members) is =
    IsUtf8-append (comma_if later) _ (IsUtf8-plain (comma_if later) (comma-plain later))
    (IsUtf8-append (quoted key) _ (IsUtf8-plain (quoted key) is.0)
    (IsUtf8-append (58 ∷ []) _ (IsUtf8-plain (58 ∷ []) refl)
    (IsUtf8-append (compact_text value) _ is.1.0 (members-utf8 true members is.1.1))))

pub told-utf8 : (value : Data) → IsTold value → IsUtf8 (compact_text value)
told-utf8 (object members) is = IsUtf8-append (123 ∷ []) _ (IsUtf8-plain (123 ∷ []) refl) (members-utf8 false members is)
told-utf8 null is = is
told-utf8 (boolean b) is = is
told-utf8 (number n) is = is
told-utf8 (string s) is = is
told-utf8 (array items) is = is

members-told : (form : JsonForm) (later : Bool) (members : Members) → AreTold members → with_escapes form (members_text later members) ≡ members_told form later members
members-told form later no_members is = with_escapes-plain form (125 ∷ []) refl
members-told form later (member key value members) is =
    plain-then form (comma_if later) _ (comma-plain later)
    ∙ ap (λ end. comma_if later ++ end)
    (plain-then form (quoted key) _ is.0
    ∙ ap (λ end. quoted key ++ end)
    (plain-then form (58 ∷ []) _ refl
    ∙ ap (λ end. 58 ∷ end)
    (with_escapes-append form (compact_text value) (members_text true members) is.1.0
    ∙ ap (λ end. document form value ++ end) (members-told form true members is.1.1))))

pub document-told : (form : JsonForm) (value : Data) → IsTold value → document form value ≡ told form value
document-told form (object members) is = plain-then form (123 ∷ []) (members_text false members) refl ∙ ap (λ end. 123 ∷ end) (members-told form false members is)
document-told form null is = refl
document-told form (boolean b) is = refl
document-told form (number n) is = refl
document-told form (string s) is = refl
document-told form (array items) is = refl
