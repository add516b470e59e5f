use Rattle.std.proofs.Common.{◌≡◌, ◌==◌, ◌+◌, ◌∙◌, not, List, ℕ, length, max, min, ap, arith}
use Rattle.hunk_loadfile.specs.Patching.{byte_or_zero}
use Rattle.hunk_loadfile.specs.Trimming.{is_kept, kept_end}
use Rattle.hunk_loadfile.proofs.TrimmingLemmas.{ends-behind, ends-init, ends-inside, ends-none, kept_end-le, sites_end}
use Rattle.hunk_loadfile.proofs.trimming.kept_length.Goals as goal

pub loop-offset-init : goal.loop-offset-init
loop-offset-init g c =
    let content : List ℕ = c.args.content.now in
    let n : ℕ = length content in
    let entries : List (ℕ × ℕ) = c.args.sites.now.entries in
    let all : c.into_iter-offset-iterator.result ≡ entries = c.into_iter-offset-iterator.ensures.into_iter_gives ∙ c.walk-offset-items.ensures.rest in
    record {
      can_next = tt;
      is_finite = tt;
      inside = omega (arith, c.nonzero_end-end.ensures, kept_end-le (λ i. not (byte_or_zero content i == 0)) n);
      ends = ap (λ sites. max c.nonzero_end-end.result (sites_end sites n)) all
          ∙ ap (λ end. max end (sites_end entries n)) c.nonzero_end-end.ensures
          ∙ ends-init content entries n;
    }

pub loop-offset-preserved-then-offset-content : goal.loop-offset-preserved-then-offset-content
loop-offset-preserved-then-offset-content g c =
    let n : ℕ = length c.args.content.now in
    let end : ℕ = c.loop-offset.end in
    let site : ℕ × ℕ = (c.in-Some.offset, c.in-Some.field-0-1.now) in
    let next : c.max-end.result ≡ max end (min n (site.0 + 4)) = omega (arith, c.max-end.ensures, c.min.ensures) in
    record {
      can_next = tt;
      is_finite = tt;
      inside = omega (arith, next, c.loop-offset.invariant.inside);
      ends = ends-inside c.loop-offset.offset-iterator c.next.new.self site n (kept_end (is_kept c.args.content.now c.args.sites.now.entries) n) end c.max-end.result c.in-Some.ensures.steps (omega (arith, c.if-offset-content.true)) next c.loop-offset.invariant.ends;
    }

pub loop-offset-preserved : goal.loop-offset-preserved
loop-offset-preserved g c =
    let n : ℕ = length c.args.content.now in
    let site : ℕ × ℕ = (c.in-Some.offset, c.in-Some.field-0-1.now) in
    record {
      can_next = tt;
      is_finite = tt;
      inside = c.loop-offset.invariant.inside;
      ends = ends-behind c.loop-offset.offset-iterator c.next.new.self site n (kept_end (is_kept c.args.content.now c.args.sites.now.entries) n) c.loop-offset.end c.in-Some.ensures.steps (omega (arith, c.if-offset-content.false)) c.loop-offset.invariant.ends;
    }

pub returns : goal.returns
returns g c =
    let n : ℕ = length c.args.content.now in
    let end = ends-none c.loop-offset.offset-iterator n (kept_end (is_kept c.args.content.now c.args.sites.now.entries) n) c.loop-offset.end c.in-None.ensures.steps.0 c.loop-offset.invariant.ends in
    omega (arith, c.div_ceil.ensures, end)
