use Rattle.wire.proofs.Turns.{front_cut, front_more, front_none, rest_cut, rest_more, rest_none}
use Rattle.entries.proofs.Layers.{laid_more, laid_none, loaded}
use Rattle.entries.proofs.reading.load_entries.Goals as goal
use Rattle.entries.specs.Entries.{entries_in, laid}
use Rattle.entry.specs.Entry.{entry_of}
use Rattle.entry.specs.declared.entry.Entry.{Entry}
use Rattle.wire.specs.declared.judged.Judged.{Judged}
use Rattle.std.proofs.lemmas.List.{set-get_or}
use Rattle.std.proofs.Common.{List, sym, ap, ◌∙◌, rules}

pub loop-place-preserved : goal.loop-place-preserved
loop-place-preserved c =
    let l = c.loop-place in
    let x = c.in_ok-found.found in
    let after = c.in_ok-found.after.now in
    let e = c.in_ok-found.ensures in
    let f = front_more entry_of c.args.count l.place-index l.rest.now x after (search rules) e in
    record {
      log = laid_more l.place-items l.place-index x.value _ (search rules) ∙ ap (λ (fs : List (Judged Entry)). laid l.place-index (entries_in fs) l.place-items) (sym f) ∙ l.invariant.log;
      rest = rest_more entry_of c.args.count l.place-index l.rest.now x after (search rules) e ∙ l.invariant.rest;
      count = search rules;
    }

pub returns-in_err-found-clause-rest : goal.returns-in_err-found-clause-rest
returns-in_err-found-clause-rest c =
    let l = c.loop-place in
    let r = sym (rest_cut entry_of c.args.count l.place-index l.rest.now (search rules) c.in_err-found.ensures) ∙ l.invariant.rest in
    search rules

pub returns-in_err-found-clause-log : goal.returns-in_err-found-clause-log
returns-in_err-found-clause-log c =
    let l = c.loop-place in
    let f = front_cut entry_of c.args.count l.place-index l.rest.now (search rules) c.in_err-found.ensures in
    let g = sym (laid_none l.place-items l.place-index) ∙ ap (λ (fs : List (Judged Entry)). laid l.place-index (entries_in fs) l.place-items) (sym f) ∙ l.invariant.log in
    loaded c.args.log.now _ c.args.count c.from-places.result c.args.bytes.now (search rules) (search rules) (set-get_or l.place-items l.place-index _ ∙ g)

pub returns-clause-rest : goal.returns-clause-rest
returns-clause-rest c =
    let l = c.loop-place in
    let r = sym (rest_none entry_of c.args.count l.place-index l.rest.now (search rules)) ∙ l.invariant.rest in
    search rules

pub returns-clause-log : goal.returns-clause-log
returns-clause-log c =
    let l = c.loop-place in
    let f = front_none entry_of c.args.count l.place-index l.rest.now (search rules) in
    let g = sym (laid_none l.place-items l.place-index) ∙ ap (λ (fs : List (Judged Entry)). laid l.place-index (entries_in fs) l.place-items) (sym f) ∙ l.invariant.log in
    let all = loaded c.args.log.now l.place-items c.args.count c.from-places.result c.args.bytes.now (search rules) (search rules) g in
    search rules
