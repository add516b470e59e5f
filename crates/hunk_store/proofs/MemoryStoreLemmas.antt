-- Lemmas on the files of a store in memory.
use Rattle.std.proofs.Common.{◌≡◌, ◌∙◌, ℕ, List, Some, false, ap, sym}
use Rattle.std.proofs.lemmas.Bool.{cond-false, false_from_ne_true}
use Rattle.std.proofs.lemmas.Map.Text.{btree_map_updates_text}
use Rattle.std.proofs.lemmas.Slice.Eq.{bytes_eq-Decides}
use Rattle.std.specs.Borrow.{Bor}
use Rattle.std.specs.BTreeMap.{BTreeMap, Updates, get_by_text}
use Rattle.std.specs.Str.{bytes_eq}
use Rattle.std.specs.String.{string_bytes, string_cmp}
use Rattle.std.specs.declared.alloc.Global.{Global}
use Rattle.std.specs.declared.string.String.{String}
use Rattle.hunk_store.specs.MemoryStore.{content_found}
use Rattle.hunk_store.specs.Store.{IsReplaced}

-- bytes that are put under a name take the place of what was there, and of nothing else
pub put_replaces : (name : String Global) (bytes : Bor (List ℕ)) (old new : BTreeMap (String Global) (Bor (List ℕ)))
    → Updates string_cmp old new name (Some bytes)
    → IsReplaced (string_bytes name) (Some bytes.now) (λ other. content_found (get_by_text old other)) (λ other. content_found (get_by_text new other))
put_replaces name bytes old new updates = record {
  placed = λ is_known. ap content_found updates.1;
  others = λ other apart.
      let differs : bytes_eq (string_bytes name) other ≡ false = false_from_ne_true _ (λ same. apart (sym ((bytes_eq-Decides (string_bytes name) other).0 same))) in
      ap content_found (btree_map_updates_text (string_bytes name) old new (Some bytes) updates other ∙ cond-false _ _ _ differs);
}
