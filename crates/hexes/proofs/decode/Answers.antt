use Rattle.std.proofs.Common.{◌≡◌, ◌++◌, take, drop, length, rules}
use Rattle.std.proofs.lemmas.List.{take_at}
use Rattle.hexes.proofs.Pairs.{decoded_into, refused}
use Rattle.hexes.proofs.decode.Goals as goal

pub returns-then-not-is_hex : goal.returns-then-not-is_hex
returns-then-not-is_hex c = let e = refused c.args.word.now (λ h. cc (c.if-not-is_hex.ensures.1 h)) in search rules

pub returns-in-Ok : goal.returns-in-Ok
returns-in-Ok c =
    let e = decoded_into c.args.word.now c.decode_to_slice.new.out _ c.decode_to_slice.result (search rules) c.decode_to_slice.ensures.value in
    let whole : take c.in_ok-bytes.bytes.len (c.decode_to_slice.new.out ++ drop (length c.decode_to_slice.new.out) c.in_ok-bytes.bytes.items) ≡ c.decode_to_slice.new.out = take_at c.decode_to_slice.new.out _ c.in_ok-bytes.bytes.len (search rules) in
    search rules

pub returns-in-Err : goal.returns-in-Err
returns-in-Err c = let e = decoded_into c.args.word.now c.decode_to_slice.new.out _ c.decode_to_slice.result (search rules) c.decode_to_slice.ensures.value in search rules
