-- the account of a run on workers can be told again
mod Tellable
