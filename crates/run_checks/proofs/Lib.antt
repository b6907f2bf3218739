mod Ending
mod SendLaws
