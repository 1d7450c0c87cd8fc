use Rattle.std.proofs.Common.{arith, ◌≡◌, ◌-◌, ◌<◌, min, length, ◌∙◌, ap, ◌++◌, take}
use Rattle.session_loop.proofs.line.keep_front.Goals as goal
use Rattle.session_loop.proofs.Streams.{front_grows, front_stays}

pub returns-then-len-ge-FRONT : goal.returns-then-len-ge-FRONT
returns-then-len-ge-FRONT c = λ line is. front_stays 4097 _ line c.args.piece.now is (omega (arith, c.args.front.now.ok.0))

pub returns : goal.returns
returns c = λ line is.
    let front = c.args.front.now.items in
    let piece = c.args.piece.now in
    let room : length front < 4097 = omega (arith, c.args.front.now.ok.0) in
    let kept : c.min-kept.result ≡ min (length piece) (4097 - length front) = omega (arith, c.args.front.now.ok.0) in
    c.in_ok-extend_from_slice.ensures.items ∙ ap (λ n. front ++ take n piece) kept ∙ front_grows 4097 front line piece is room
