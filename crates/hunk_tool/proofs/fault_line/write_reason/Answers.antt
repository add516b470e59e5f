-- Each reason, with its number.
use Rattle.std.proofs.Common.{◌++◌, codes, ap}
use Rattle.std.specs.Fmt.{decimal}
use Rattle.hunk_base.proofs.TextLemmas.{Puts-as}
use Rattle.hunk_tool.proofs.fault_line.write_reason.Goals as goal

pub returns-in-UnknownType : goal.returns-in-UnknownType
returns-in-UnknownType g c = rw c.in-UnknownType.is (Puts-as (ap (λ n. codes "unknown block type " ++ decimal n) c.from.ensures) c.write_last.ensures)

pub returns-in-MisplacedType : goal.returns-in-MisplacedType
returns-in-MisplacedType g c = rw c.in-MisplacedType.is (Puts-as (ap (λ n. codes "block type " ++ decimal n ++ codes " not allowed here") c.from-in-MisplacedType.ensures) c.write_number.ensures)

pub returns-in-UnsupportedBlock : goal.returns-in-UnsupportedBlock
returns-in-UnsupportedBlock g c = rw c.in-UnsupportedBlock.is (Puts-as (ap (λ n. codes "block type " ++ decimal n ++ codes " not supported") c.from-in-UnsupportedBlock.ensures) c.write_number-in-UnsupportedBlock.ensures)

pub returns-in-UnsupportedExt : goal.returns-in-UnsupportedExt
returns-in-UnsupportedExt g c = rw c.in-UnsupportedExt.is (Puts-as (ap (λ n. codes "external type " ++ decimal n ++ codes " not supported") c.from-in-UnsupportedExt.ensures) c.write_number-in-UnsupportedExt.ensures)

pub returns-in-NoSuchHunk : goal.returns-in-NoSuchHunk
returns-in-NoSuchHunk g c = rw c.in-NoSuchHunk.is (Puts-as (ap (λ n. codes "no hunk " ++ decimal n) c.from-in-NoSuchHunk.ensures) c.write_last-in-NoSuchHunk.ensures)

pub returns-in-SymbolKind : goal.returns-in-SymbolKind
returns-in-SymbolKind g c = rw c.in-SymbolKind.is (Puts-as (ap (λ n. codes "symbol of kind " ++ decimal n) c.from-in-SymbolKind.ensures) c.write_last-in-SymbolKind.ensures)

pub returns-in-BothMemoryBits : goal.returns-in-BothMemoryBits
returns-in-BothMemoryBits g c = rw c.in-BothMemoryBits.is c.put-in-BothMemoryBits.ensures

pub returns-in-SiteOutside : goal.returns-in-SiteOutside
returns-in-SiteOutside g c = rw c.in-SiteOutside.is c.write_site.ensures

pub returns-in-SiteOverlap : goal.returns-in-SiteOverlap
returns-in-SiteOverlap g c = rw c.in-SiteOverlap.is c.write_site-in-SiteOverlap.ensures

pub returns-in-TrailingData : goal.returns-in-TrailingData
returns-in-TrailingData g c = rw c.in-TrailingData.is c.put-in-TrailingData.ensures
