use Rattle.std.proofs.Common.{refl, sym, ◌∙◌, rules}
use Rattle.wire.proofs.Turns.{after_end, after_turn, made_cut}
use Rattle.wire.specs.Several.{after}
use Rattle.entries.proofs.reading.judge_entries.Goals as goal
use Rattle.entries.specs.Entries.{sound_too}
use Rattle.entry.specs.Entry.{entry_of}

pub returns-in_err-found : goal.returns-in_err-found
returns-in_err-found c =
    let l = c.loop in
    let e = sym (made_cut entry_of c.args.count l.counter l.rest.now (after sound_too l.sound) c.loop-test.true c.in_err-found.ensures) ∙ l.invariant in
    search rules

pub loop-preserved : goal.loop-preserved
loop-preserved c =
    let l = c.loop in
    after_turn entry_of c.args.count l.counter l.rest.now sound_too l.sound c.in_ok-found.found c.in_ok-found.after.now _ c.loop-test.true c.in_ok-found.ensures refl ∙ l.invariant

pub returns : goal.returns
returns c = let l = c.loop in sym (after_end entry_of c.args.count l.counter l.rest.now sound_too l.sound c.loop-test.false) ∙ l.invariant
