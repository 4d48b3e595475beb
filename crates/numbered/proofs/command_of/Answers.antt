-- Each arm says which number it is; in the last arm it is none of the eleven.
use borrow.Author.Tests.{ne_eqb}
use Rattle.numbered.proofs.command_of.Goals as goal

pub returns-in-1 : goal.returns-in-1
returns-in-1 c = rw c.in-1.is

pub returns-in-2 : goal.returns-in-2
returns-in-2 c = rw c.in-2.is

pub returns-in-3 : goal.returns-in-3
returns-in-3 c = rw c.in-3.is

pub returns-in-4 : goal.returns-in-4
returns-in-4 c = rw c.in-4.is

pub returns-in-5 : goal.returns-in-5
returns-in-5 c = rw c.in-5.is

pub returns-in-6 : goal.returns-in-6
returns-in-6 c = rw c.in-6.is

pub returns-in-7 : goal.returns-in-7
returns-in-7 c = rw c.in-7.is

pub returns-in-8 : goal.returns-in-8
returns-in-8 c = rw c.in-8.is

pub returns-in-9 : goal.returns-in-9
returns-in-9 c = rw c.in-9.is

pub returns-in-10 : goal.returns-in-10
returns-in-10 c = rw c.in-10.is

pub returns-in-11 : goal.returns-in-11
returns-in-11 c = rw c.in-11.is

pub returns-in_default : goal.returns-in_default
returns-in_default c = search ne_eqb
