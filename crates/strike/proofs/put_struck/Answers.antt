-- `strike::put_struck` meets its contract: octet 1, and then I, S and what is behind S, each behind the last.
-- Assumes nothing.
use borrow.Author.Rules.{rules}
use Rattle.strike.proofs.MessageStruck.{known_of, no_keep, some_keep, done_length, some_octet, one_put, first_room, second_room, rest_room, all_put}
use Rattle.strike.proofs.put_struck.Goals as goal

pub bounds-s-0 : goal.bounds-s-0
bounds-s-0 c =
    some_octet (known_of c.args.s.now c.args.parts c.args.out.now c.requires (λ i. search rules))

pub returns-in_default : goal.returns-in_default
returns-in_default c = let a = c.args in
    one_put (known_of a.s.now a.parts a.out.now c.requires (λ i. search rules)) (no_keep a.s.now a.parts c.requires.0 c.in_default.ensures)

pub put_field-first-requires : goal.put_field-first-requires
put_field-first-requires c = let a = c.args in
    first_room (known_of a.s.now a.parts a.out.now c.requires (λ i. search rules)) (some_keep a.s.now a.parts c.in-Some.keep c.requires.0 c.in-Some.ensures)

pub put_field-second-requires : goal.put_field-second-requires
put_field-second-requires c = let a = c.args in
    second_room (known_of a.s.now a.parts a.out.now c.requires (λ i. search rules)) (some_keep a.s.now a.parts c.in-Some.keep c.requires.0 c.in-Some.ensures) c.put_field-first.ensures

pub put_rest-requires : goal.put_rest-requires
put_rest-requires c = let a = c.args in
    rest_room (known_of a.s.now a.parts a.out.now c.requires (λ i. search rules)) (some_keep a.s.now a.parts c.in-Some.keep c.requires.0 c.in-Some.ensures) c.put_field-first.ensures c.put_field-second.ensures

pub returns : goal.returns
returns c = let a = c.args in
    all_put (known_of a.s.now a.parts a.out.now c.requires (λ i. search rules)) (some_keep a.s.now a.parts c.in-Some.keep c.requires.0 c.in-Some.ensures) c.put_field-first.ensures c.put_field-second.ensures c.put_rest.ensures.0 c.put_rest.ensures.1

pub shape_of-out : goal.shape_of-out
shape_of-out c = let a = c.args in
    done_length (known_of a.s.now a.parts a.out.now c.requires (λ i. search rules)) (returns c)
