-- The piece that was read is the next name, unless it is empty.
use Rattle.std.proofs.Common.{◌∙◌, ◌==◌, ℕ, List, [], ◌∷◌, Global, Vec, ap, arith, inl, inr, subst, sym}
use Rattle.std.specs.Io.Buffered.{reader_remaining}
use Rattle.std.specs.List.{filter}
use Rattle.hunk_addresses.specs.BasesFile.{has_bytes}
use Rattle.hunk_store.specs.NameReader.{TakesNames, unread}
use Rattle.hunk_store.proofs.NameReaderLemmas.{IsPieceOf, name-of_piece, no_name-of_piece, takes-more, takes-piece}
use Rattle.hunk_store.proofs.name_reader.NameReader.next.Goals.{then-index-end, else-index-end}
use Rattle.hunk_store.proofs.name_reader.NameReader.next.Goals as goal

abbrev items_of : Vec ℕ Global → List ℕ
items_of name = name.items

pub returns-then-not-is_empty-clause-some : goal.returns-then-not-is_empty-clause-some
returns-then-not-is_empty-clause-some g c =
    let old = unread g.F.Source.left c.args.self.now in
    let between = unread g.F.Source.left c.pieces.self in
    let new = reader_remaining (λ bytes. g.F.Source.left bytes.file) c.read_until.new.self in
    let end = c.args.self.now.end in
    let piece = c.if-index-end.name.items in
    let is_piece : IsPieceOf c.byte-end.result c.read_until.new.buf.items c.in-Ok.count c.index.result.now piece =
    elim c.if-index-end.branch [ then-index-end w ↦ inl (w.if-index-end.true, ap items_of w.name-is ∙ w.truncate.ensures.items) | else-index-end w ↦ inr (w.if-index-end.false, ap items_of w.name-is) ] in
    let taken = takes-piece end c.byte-end.result between new c.clear.new.self.items c.read_until.new.buf.items piece c.in-Ok.count c.index.result.now c.byte-end.ensures c.clear.ensures.items c.in-Ok.ensures.bytes c.in-Ok.ensures.rest
    (omega (arith, c.in-Ok.ensures.ok, c.clear.ensures.len, c.read_until.new.buf.ok.0)) (omega (arith, c.in-Ok.count-test)) c.index.ensures is_piece in
    let more = takes-more end old between new [] (filter has_bytes (piece ∷ [])) c.pieces.invariant.taken taken in
    let empty = ap (λ len. len == 0) (sym c.if-index-end.name.ok.0) ∙ sym c.is_empty.ensures in
    λ same. subst (TakesNames end old new) (name-of_piece piece (empty ∙ c.if-not-is_empty.true)) more

pub pieces-preserved : goal.pieces-preserved
pieces-preserved g c =
    let old = unread g.F.Source.left c.args.self.now in
    let between = unread g.F.Source.left c.pieces.self in
    let new = reader_remaining (λ bytes. g.F.Source.left bytes.file) c.read_until.new.self in
    let end = c.args.self.now.end in
    let piece = c.if-index-end.name.items in
    let is_piece : IsPieceOf c.byte-end.result c.read_until.new.buf.items c.in-Ok.count c.index.result.now piece =
    elim c.if-index-end.branch [ then-index-end w ↦ inl (w.if-index-end.true, ap items_of w.name-is ∙ w.truncate.ensures.items) | else-index-end w ↦ inr (w.if-index-end.false, ap items_of w.name-is) ] in
    let taken = takes-piece end c.byte-end.result between new c.clear.new.self.items c.read_until.new.buf.items piece c.in-Ok.count c.index.result.now c.byte-end.ensures c.clear.ensures.items c.in-Ok.ensures.bytes c.in-Ok.ensures.rest
    (omega (arith, c.in-Ok.ensures.ok, c.clear.ensures.len, c.read_until.new.buf.ok.0)) (omega (arith, c.in-Ok.count-test)) c.index.ensures is_piece in
    let more = takes-more end old between new [] (filter has_bytes (piece ∷ [])) c.pieces.invariant.taken taken in
    let empty = ap (λ len. len == 0) (sym c.if-index-end.name.ok.0) ∙ sym c.is_empty.ensures in
    record { same_end = c.pieces.invariant.same_end; taken = subst (TakesNames end old new) (no_name-of_piece piece (empty ∙ c.if-not-is_empty.false)) more }
