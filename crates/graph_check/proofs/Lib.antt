mod Deciding
mod Walking
