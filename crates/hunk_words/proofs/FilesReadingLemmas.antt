-- Valid prefixes and files: the machine reads each, and nothing else.
use Rattle.std.proofs.Common.{◌≡◌, ℕ, zero, suc, ◌≤◌, List, [], ◌∷◌, ◌++◌, length, Ok, refl, ap, sym, subst, ◌∙◌, append-nil, append_assoc, length-append, arith}
use Rattle.hunk_base.specs.Longwords.{AllLong}
use Rattle.hunk_words.specs.Kinds.{Width, Field, width}
use Rattle.hunk_words.specs.Kinds.Width.{long, half}
use Rattle.hunk_words.specs.FieldLongwords.{fields_from, fields_in}
use Rattle.hunk_words.specs.Machine.{IsComplete}
use Rattle.hunk_words.specs.SiteRules.{seen_after, Obeys}
use Rattle.hunk_words.specs.Reading.{Reads, labels, Progress, initial_progress, read_words}
use Rattle.hunk_words.specs.Files.{spelling, most_longwords, IsFile, IsValidPrefix}
use Rattle.hunk_words.specs.declared.event.FileKind.{FileKind}
use Rattle.hunk_words.specs.declared.kinds.Half.{Half}
use Rattle.hunk_words.specs.declared.kinds.Half.TheVariants.{Upper as upper, Lower as lower}
use Rattle.hunk_words.proofs.ReadingSplitLemmas.{reads-split, reads-one}
use Rattle.hunk_words.proofs.FilesPrefixLemmas.{start, end_of, complete-end, spelling-read, spelling-labels, spelling-in, read-spelled, front}
use Rattle.hunk_words.proofs.ReadingProgressLemmas.{WordsRead, words-read, words-go}

-- ---- fields of longwords

-- the sites of the first longwords obey the rules if all do
pub obeys-fields_from : (h : Half) (n : ℕ) (fs : List Field) (seen : List ℕ) → Obeys seen fs → Obeys seen (fields_from h n fs)
obeys-fields_from upper zero fs seen o = tt
obeys-fields_from upper (suc n) [] seen o = tt
obeys-fields_from upper (suc n) (f ∷ fs) seen o = obeys-fields_at (width f.kind) n f fs seen o (obeys-fields_from upper n fs _ o.1) (obeys-fields_from lower n fs _ o.1)
  where
    obeys-fields_at : (w : Width) (n : ℕ) (f : Field) (fs : List Field) (seen : List ℕ) → Obeys seen (f ∷ fs)
        → Obeys (seen_after f.kind f.number seen) (fields_from upper n fs) → Obeys (seen_after f.kind f.number seen) (fields_from lower n fs)
        → Obeys seen (elim w [ long ↦ f ∷ fields_from upper n fs | half h ↦ f ∷ fields_from lower n fs ])
    obeys-fields_at long n f fs seen o u l = (o.0, u)
    obeys-fields_at (half h) n f fs seen o u l = (o.0, l)
obeys-fields_from lower n [] seen o = tt
obeys-fields_from lower n (f ∷ fs) seen o = (o.0, obeys-fields_from upper n fs _ o.1)

-- the fields of fewer longwords
fields-front-at : (w : Width) (n m : ℕ) (f : Field) (fs : List Field) → width f.kind ≡ w → fields_from upper n (fields_from upper m fs) ≡ fields_from upper n fs → fields_from lower n (fields_from lower m fs) ≡ fields_from lower n fs
    → fields_from upper (suc n) (elim w [ long ↦ f ∷ fields_from upper m fs | half h ↦ f ∷ fields_from lower m fs ]) ≡ elim w [ long ↦ f ∷ fields_from upper n fs | half h ↦ f ∷ fields_from lower n fs ]
fields-front-at long n m f fs is u l =
    subst (λ w. elim w [ long ↦ f ∷ fields_from upper n (fields_from upper m fs) | half h ↦ f ∷ fields_from lower n (fields_from upper m fs) ] ≡ f ∷ fields_from upper n fs) (sym is) (ap (λ x. f ∷ x) u)
fields-front-at (half h) n m f fs is u l =
    subst (λ w. elim w [ long ↦ f ∷ fields_from upper n (fields_from lower m fs) | half h ↦ f ∷ fields_from lower n (fields_from lower m fs) ] ≡ f ∷ fields_from lower n fs) (sym is) (ap (λ x. f ∷ x) l)

fields-front : (h : Half) (ws us : List ℕ) (fs : List Field) → fields_from h (length ws) (fields_from h (length (ws ++ us)) fs) ≡ fields_from h (length ws) fs
fields-front upper [] us fs = refl
fields-front upper (w ∷ ws) us [] = refl
fields-front upper (w ∷ ws) us (f ∷ fs) = fields-front-at (width f.kind) (length ws) (length (ws ++ us)) f fs refl (fields-front upper ws us fs) (fields-front lower ws us fs)
fields-front lower ws us [] = refl
fields-front lower ws us (f ∷ fs) = ap (λ x. f ∷ x) (fields-front upper ws us fs)

-- ---- prefixes and files

-- a prefix of a valid prefix is valid
pub front-front : (kind : FileKind) (ws us : List ℕ) → IsValidPrefix kind (ws ++ us) → IsValidPrefix kind ws
front-front kind ws us g = record {
  tree = g.tree;
  fits = g.fits;
  more = us ++ g.more;
  begins = g.begins ∙ append_assoc ws us g.more;
  sites = subst (λ fs. Obeys [] fs) (fields-front upper ws us (spelling kind g.tree))
      (obeys-fields_from upper (length ws) (fields_in (length (ws ++ us)) (spelling kind g.tree)) [] g.sites);
  short_enough = let n : length (ws ++ us) ≤ most_longwords = g.short_enough in omega (arith, length-append ws us);
}

-- a file is a valid prefix
pub file-front : (kind : FileKind) (ws : List ℕ) → IsFile kind ws → IsValidPrefix kind ws
file-front kind ws g = record {
  tree = g.tree;
  fits = g.is_file.fits;
  more = [];
  begins = g.is_file.spelled ∙ sym (append-nil ws);
  sites = obeys-fields_from upper (length ws) (spelling kind g.tree) [] g.is_file.sites;
  short_enough = g.is_file.short_enough;
}

-- each valid prefix is read
pub front-read : (kind : FileKind) (ws : List ℕ) → IsValidPrefix kind ws → (d : Progress) × (read_words (initial_progress kind) 0 ws ≡ Ok d) × WordsRead (initial_progress kind) ws d
front-read kind ws g =
    let r : Reads (start kind) (ws ++ g.more) (end_of kind) = subst (λ x. Reads (start kind) x (end_of kind)) g.begins (spelling-read kind g.tree g.fits) in
    let m = reads-split ws g.more (start kind) (end_of kind) r in
    words-go ws (initial_progress kind) 0 m.0 m.1 (subst (λ fs. Obeys [] fs) (spelling-in kind g.tree ws g.more g.fits g.begins) g.sites)

-- what is read is a valid prefix
pub read-front : (kind : FileKind) (ws : List ℕ) (d : Progress) → AllLong ws → length ws ≤ most_longwords → read_words (initial_progress kind) 0 ws ≡ Ok d → IsValidPrefix kind ws
read-front kind ws d longs short h =
    let r = words-read ws (initial_progress kind) 0 d longs h in
    let t = front kind ws d.stack r.reads in record {
      tree = t.1;
      fits = t.2;
      more = t.0;
      begins = t.3;
      sites = subst (λ fs. Obeys [] fs) (sym (spelling-in kind t.1 ws t.0 t.2 t.3)) r.obeys;
      short_enough = short;
    }

-- and a file, if it may end there
pub complete-file : (kind : FileKind) (ws : List ℕ) (d : Progress) → AllLong ws → length ws ≤ most_longwords → read_words (initial_progress kind) 0 ws ≡ Ok d → IsComplete d.stack → IsFile kind ws
complete-file kind ws d longs short h c =
    let r = words-read ws (initial_progress kind) 0 d longs h in
    let t = read-spelled kind ws d.stack r.reads c in
    let same : spelling kind t.0 ≡ labels (start kind) ws = spelling-labels kind t.0 t.1 ∙ ap (λ x. labels (start kind) x) t.2 in record {
      tree = t.0;
      is_file = record { fits = t.1; spelled = t.2; sites = subst (λ fs. Obeys [] fs) (sym same) r.obeys; short_enough = short };
    }

-- a file is read up to where it may end
pub file-reads : (kind : FileKind) (ws : List ℕ) → IsFile kind ws → Reads (start kind) ws (end_of kind)
file-reads kind ws g = subst (λ x. Reads (start kind) x (end_of kind)) g.is_file.spelled (spelling-read kind g.tree g.is_file.fits)

pub file-complete : (kind : FileKind) (ws : List ℕ) (d : Progress) → AllLong ws → read_words (initial_progress kind) 0 ws ≡ Ok d → IsFile kind ws → IsComplete d.stack
file-complete kind ws d longs h g =
    subst (λ x. IsComplete x) (reads-one ws (start kind) (end_of kind) d.stack (file-reads kind ws g) (words-read ws (initial_progress kind) 0 d longs h).reads) (complete-end kind)
